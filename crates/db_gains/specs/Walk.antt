-- Where the links are walked: where a walk goes on for a key, and how far. Definitions only.
use Rattle.std.specs.Prelude.{ℕ, ◌+◌, ◌%◌, ◌^◌, ◌≤◌, cond, List, length, take, drop, Float}
use Rattle.std.specs.List.{prefix_len}
use mathlib.Core.List.{foldl}
use Rattle.model.specs.declared.micro.MicroId.{MicroId}
use Rattle.model.specs.declared.link.Link.{Link}
use Rattle.model.specs.DbInsert.{absent, before, gain_of}
use Rattle.db_gains.specs.declared.walk.Walk.{Walk}
use Rattle.db_gains.specs.Factor.{Right, factor_after}
use Rattle.db_gains.specs.Laws.Passed.{Passed}

-- how many links at the front stand before the key
abbrev pub front : Link → List Link → ℕ
front key ls = prefix_len (λ (l : Link). before l key) ls

-- "a link is looked for from where the last one was found", and "where a key is smaller than the one before, the walk starts anew"
abbrev pub resumed_at : Walk → (key : Link) → ℕ
resumed_at w key = cond (before key w.key) 0 w.at

abbrev pub resumed : Walk → (key : Link) → Walk
resumed w key = record { at = resumed_at w key; key = key; steps = w.steps; factor = w.factor }

-- how many links it has gone past, n more: a number 64 bits wide
abbrev pub gone_past : Walk → (n : ℕ) → ℕ
gone_past w n = (w.steps + n) % 2 ^ 64

-- from its place on, past the links that stand before its key
abbrev pub advanced : List Link → Walk → Walk
advanced ls w = record { at = w.at + front w.key (drop w.at ls); key = w.key; steps = gone_past w (front w.key (drop w.at ls)); factor = w.factor }

-- how many links it has gone past once it has sought a key, from where it goes on for it
abbrev pub steps_to : Walk → (key : Link) → List Link → ℕ
steps_to w key ls = gone_past w (front key (drop (resumed_at w key) ls))

-- at the first link that does not stand before the key
abbrev pub sought : (key : Link) → List Link → Walk → Walk
sought key ls w = record { at = front key ls; key = key; steps = steps_to w key ls; factor = w.factor }

-- after the key's gain: where its link was sought, with the factor that the gain leaves
abbrev pub walk_after : (lambda t : Float) → (key : Link) → List Link → Walk → Walk
walk_after lambda t key ls w =
    record { at = front key ls; key = key; steps = steps_to w key ls; factor = factor_after lambda t key ls w.factor }

-- a walk and its links, once a pair has gained
abbrev pub pair_walked : (lambda t : Float) → Walk × List Link → MicroId × MicroId → Walk × List Link
pair_walked lambda t s p = (walk_after lambda t (absent p.0 p.1 t) s.1 s.0, gain_of lambda t s.1 p)

-- "one pass over pairs and links makes every gain": the walk that one pair leaves is the next one's
abbrev pub pairs_walked : (lambda t : Float) → Walk × List Link → List (MicroId × MicroId) → Walk × List Link
pairs_walked lambda t s ps = foldl (pair_walked lambda t) s ps

-- the links before its place stand before its key, and its fade is the one from its factor's last
pub record Ready (lambda t : Float) (w : Walk) (ls : List Link) : Type 0 where
  pub place : w.at ≤ length ls
  pub passed : Passed w.key (take w.at ls)
  pub right : Right lambda t w.factor
