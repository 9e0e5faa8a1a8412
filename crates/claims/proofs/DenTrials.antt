-- What a trial of a pool's nearest finds: one of the pool, and its copy with the point.
use Prim.Native.Nat.{ℕ, ◌+◌}
use mathlib.Core.Path.{◌≡◌, refl, sym, subst}
use mathlib.Core.Bool.{Bool, true, false, cond}
use mathlib.Core.List.{List, [], ◌∷◌, ◌++◌}
use mathlib.Core.Option.{Option, none, some}
use lib.Ieee.{Float, lt}
use lib.ListN.{length, length-append}
use lib.Seq.{append_snoc}
use Rattle.model.specs.declared.micro.DenMicro.{DenMicro}
use Rattle.model.specs.Body.{distance_to}
use Rattle.model.specs.Nearest.{Near, near_at, nearer, nearest_from, nearest_of}
use Rattle.model.specs.DenState.{State}
use Rattle.model.specs.DenInsert.{absorbs, stands, trial_in}
use Rattle.claims.specs.Lists.{At}

-- ---- the nearest stands at its place
module _ {A : Type 0} (distance : A → Float) where
  at_middle : (front : List A) (a : A) (rest : List A) → At (front ++ a ∷ rest) (length front) a
  at_middle [] a rest = refl
  at_middle (b ∷ front) a rest = at_middle front a rest

  nearer_at :
      (l : List A) (t : Bool) (best new : Near A) →
      At l best.place best.micro →
      At l new.place new.micro →
      At l (cond t new best).place (cond t new best).micro
  nearer_at l true best new h k = k
  nearer_at l false best new h k = h

  from_at :
      (front rest : List A) (best : Near A) →
      At (front ++ rest) best.place best.micro →
      At (front ++ rest) (nearest_from distance best (length front) rest).place (nearest_from distance best (length front) rest).micro
  unfolding nearest_from
  from_at front [] best h = h
  from_at front (a ∷ rest) best h =
      let more : List A = front ++ a ∷ [] in
      let e : more ++ rest ≡ front ++ a ∷ rest = append_snoc front a rest in
      let k : length more ≡ length front + 1 = length-append front (a ∷ []) in
      let new : Near A = nearer distance best (near_at distance (length front) a) in
      let i : At (front ++ a ∷ rest) new.place new.micro =
      nearer_at (front ++ a ∷ rest) (lt (distance a) best.dist) best (near_at distance (length front) a) h (at_middle front a rest) in
      subst (λ (m : ℕ). At (front ++ a ∷ rest) (nearest_from distance new m rest).place (nearest_from distance new m rest).micro) k
      (subst (λ (l : List A). At l (nearest_from distance new (length more) rest).place (nearest_from distance new (length more) rest).micro) e
      (from_at more rest new (subst (λ (l : List A). At l new.place new.micro) (sym e) i)))

-- ---- a trial
-- b is the copy, with x absorbed, of the one that stands at its place
pub record Tried (s : State) (x : List Float) (pool : List DenMicro) (b : Near DenMicro) : Type 0 where
  pub old : DenMicro
  pub at : At pool b.place old
  pub grown : b.micro ≡ absorbs s.params.settings.lambda s.t x old

-- of a trial that found one
abbrev pub TriedBy : State → List Float → List DenMicro → Option (Near DenMicro) → Type 0
TriedBy s x pool none = Unit {0}
TriedBy s x pool (some b) = Tried s x pool b

-- every trial is such a one
pub tried : (s : State) (x : List Float) (pool : List DenMicro) → TriedBy s x pool (trial_in s x pool)
unfolding nearest_of
tried s x [] = tt
tried s x (m ∷ pool) = go (stands s.params.eps2 (absorbs s.params.settings.lambda s.t x best.micro))
  where
    dist : DenMicro → Float
    dist m = distance_to x m.body

    best : Near DenMicro
    best = nearest_from dist (near_at dist 0 m) 1 pool

    go :
        (t : Bool) →
        TriedBy s x (m ∷ pool)
        (cond t (some (record { place = best.place; micro = absorbs s.params.settings.lambda s.t x best.micro; dist = best.dist })) none)
    go true = record { old = best.micro; at = from_at dist (m ∷ []) pool (near_at dist 0 m) refl; grown = refl }
    go false = tt
