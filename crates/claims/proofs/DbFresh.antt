-- A DBSTREAM from fresh: its clock, its creation numbers and its links, through every insert.
use Prim.Native.Nat.{ℕ, ◌+◌, ◌%◌, ◌^◌, ◌<◌, ◌≤◌}
use mathlib.Core.Path.{◌≡◌, refl, sym, ap, ◌∙◌, subst}
use mathlib.Core.Bool.{Bool, true, false, not, cond}
use mathlib.Core.List.{List, [], ◌∷◌, ◌++◌, map}
use native.Mathlib.Omega.{arith}
use lib.Dec.{eqb}
use lib.Ieee.{Float, lt}
use borrow.Author.Tests.{eqb-true}
use Rattle.lists.specs.Each.{Each}
use Rattle.lists.specs.Laws.Each.{each_more, each_append}
use Rattle.float.specs.Rounded.{◌⊕◌, one}
use Rattle.lists.specs.Retain.{retain}
use Rattle.model.specs.declared.micro.MicroId.{MicroId}
use Rattle.model.specs.declared.micro.DbMicro.{DbMicro}
use Rattle.model.specs.declared.link.Link.{Link}
use Rattle.model.specs.Limits.{clock_most}
use Rattle.model.specs.Run.{accepted_in}
use Rattle.model.specs.DbState.{Settings, Params, Holdings, State}
use Rattle.model.specs.DbInsert.{least_of, id_of, is_neighbour, newborn, absorbed, absorbs, pairs_of, gain_in, gain_of, absent, has_room, faded_link, micro_stays}
use Rattle.model.specs.DbInsert.{link_stays, is_held, neighbours_of, born, joined, placed, nearest_for, cleanup}
use Rattle.model.specs.Dbstream.{dbstream, has_place, fresh, taken_of}
use Rattle.model.specs.Stream.{taking}
use Rattle.model.proofs.Laws.Stream.{tick_cases}
use Rattle.claims.specs.Lists.{In, Ascending}
use Rattle.claims.specs.DbClaims.{Older, Before, Live, LinksHeld, FromFresh, after, told}
use Rattle.claims.proofs.Order.{and_true, ascending_snoc, in_append, each_retain, ascending_retain, retain_passes}
use Rattle.claims.proofs.Order.{in_retain, any_in, each_map, ascending_map, in_map, map_in}
use Rattle.claims.proofs.Runs.{always, clock_counts}
use Rattle.claims.proofs.DbCases.{placed_cases}
use Rattle.claims.proofs.DbGains.{Smaller, gain_each, gain_ascending, fold_gain, pairs_each}
use Rattle.std.specs.Prelude.{None}

-- both ends are held
abbrev pub Held : List DbMicro → Link → Type 0
Held ms l = Live ms l.lo.0 × Live ms l.hi.0

more_live : (ms ns : List DbMicro) → ((a : ℕ) → Live ms a → Live ns a) → (ls : List Link) → LinksHeld ms ls → LinksHeld ns ls
more_live ms ns h ls g =
    record {
      ascending = g.ascending;
      smaller_first = g.smaller_first;
      ends = each_more (λ (l : Link) (e : Held ms l). (h l.lo.0 e.0, h l.hi.0 e.1)) ls g.ends;
    }

-- ---- one gain, of a pair of live numbers, the smaller first
-- both numbers are live, the smaller first
abbrev pub GoodPair : List DbMicro → MicroId × MicroId → Type 0
GoodPair ms p = Smaller p.0 p.1 × (Live ms p.0.0 × Live ms p.1.0)

-- links that are held stay so where such a pair gains, with room or without
pub a_gain :
    (lambda t : Float) (room : Bool) (ms : List DbMicro) (ls : List Link) (p : MicroId × MicroId) →
    LinksHeld ms ls →
    GoodPair ms p →
    LinksHeld ms (gain_in lambda t room (absent p.0 p.1 t) ls)
a_gain lambda t room ms ls p g q =
    record {
      ascending = gain_ascending lambda t room (absent p.0 p.1 t) ls g.ascending;
      smaller_first = gain_each lambda t (λ a b. a < b) room (absent p.0 p.1 t) ls q.0 g.smaller_first;
      ends = gain_each lambda t (λ a b. Live ms a × Live ms b) room (absent p.0 p.1 t) ls q.1 g.ends;
    }

-- and so for the room that the list has
pub one_gain :
    (lambda t : Float) (ms : List DbMicro) (ls : List Link) (p : MicroId × MicroId) →
    LinksHeld ms ls →
    GoodPair ms p →
    LinksHeld ms (gain_of lambda t ls p)
one_gain lambda t ms ls p g q = a_gain lambda t (has_room ls) ms ls p g q

-- ---- an absorbed point: a micro-cluster keeps its number
-- absorbed or not, the number stays
pub absorbed_id : (r lambda t : Float) (x : List Float) (m : DbMicro) → (absorbed r lambda t x m).id ≡ m.id
absorbed_id r lambda t x m = go (is_neighbour r x m)
  where
    go : (b : Bool) → (cond b (absorbs lambda t x m) m).id ≡ m.id
    go true = refl
    go false = refl

-- what an insert joins: pairs of live numbers, the smaller first, and links that are held by the micro-clusters with the point absorbed
pub record Joining (s : State) (x : List Float) : Type 0 where
  pub pairs : Each (GoodPair (joined s x).micros) (pairs_of (map id_of (neighbours_of s x)))
  pub links : LinksHeld (joined s x).micros s.held.links

-- the neighbours' numbers ascend, as their micro-clusters do
pub neighbours_ascend : (s : State) (x : List Float) → Ascending Older s.held.micros → Ascending Smaller (map id_of (neighbours_of s x))
neighbours_ascend s x u =
    ascending_map Older Smaller id_of (λ (a b : DbMicro) (h : Older a b). h) (neighbours_of s x)
    (ascending_retain Older (is_neighbour s.params.settings.r x) s.held.micros u)

-- so every pair of neighbours is a good one
pub joining : (s : State) (x : List Float) → Ascending Older s.held.micros → LinksHeld s.held.micros s.held.links → Joining s x
joining s x u g =
    record {
      pairs = pairs_each (λ a b. Smaller a b × (Live ms a.0 × Live ms b.0)) (map id_of (neighbours_of s x)) (neighbours_ascend s x u)
          (λ a b i j l. (l, (known a i, known b j)));
      links = more_live s.held.micros ms live s.held.links g;
    }
  where
    ms : List DbMicro
    ms = (joined s x).micros

    live : (a : ℕ) → Live s.held.micros a → Live (joined s x).micros a
    live a l =
        let f : DbMicro → DbMicro = absorbed s.params.settings.r s.params.settings.lambda s.t x in
        let keeps : (f l.0).id ≡ l.0.id = absorbed_id s.params.settings.r s.params.settings.lambda s.t x l.0 in
        (f l.0, in_map f s.held.micros l.0 l.1, ap (λ (i : MicroId). i.0) keeps ∙ l.2)

    known : (a : MicroId) → In a (map id_of (neighbours_of s x)) → Live (joined s x).micros a.0
    known a i =
        let m = map_in id_of (neighbours_of s x) a i in
        live a.0 (m.0, in_retain (is_neighbour s.params.settings.r x) s.held.micros m.0 m.1, ap (λ (i : MicroId). i.0) (sym m.2))

-- all of `FromFresh` but the clock
pub record Numbered (n : ℕ) (h : Holdings) : Type 0 where
  pub ascending : Ascending Older h.micros
  pub below_next : Each (λ (m : DbMicro). m.id.0 < h.next) h.micros
  pub next_limit : h.next ≤ n
  pub links : LinksHeld h.micros h.links

pub joined_ascends : (s : State) (x : List Float) → Ascending Older s.held.micros → Ascending Older (joined s x).micros
joined_ascends s x u =
    ascending_map Older Older f (λ (a b : DbMicro) (h : Older a b). subst (λ (k : MicroId). k.0 < (f b).id.0) (sym (keeps a))
    (subst (λ (k : MicroId). a.id.0 < k.0) (sym (keeps b)) h)) s.held.micros u
  where
    f : DbMicro → DbMicro
    f = absorbed s.params.settings.r s.params.settings.lambda s.t x

    keeps : (m : DbMicro) → (f m).id ≡ m.id
    keeps m = absorbed_id s.params.settings.r s.params.settings.lambda s.t x m

numbered_joined : (n : ℕ) (s : State) (x : List Float) → Numbered n s.held → Numbered (n + 1) (joined s x)
numbered_joined n s x g =
    record {
      ascending = joined_ascends s x g.ascending;
      below_next = each_map (λ (m : DbMicro). m.id.0 < s.held.next) (λ (m : DbMicro). m.id.0 < s.held.next) f
          (λ (m : DbMicro) (h : m.id.0 < s.held.next). subst (λ (k : MicroId). k.0 < s.held.next)
          (sym (absorbed_id s.params.settings.r s.params.settings.lambda s.t x m)) h) s.held.micros g.below_next;
      next_limit = (let l : s.held.next ≤ n = g.next_limit in omega arith);
      links = fold_gain s.params.settings.lambda s.t (LinksHeld (joined s x).micros) (GoodPair (joined s x).micros)
          (one_gain s.params.settings.lambda s.t (joined s x).micros) (pairs_of (map id_of (neighbours_of s x))) s.held.links j.pairs j.links;
    }
  where
    f : DbMicro → DbMicro
    f = absorbed s.params.settings.r s.params.settings.lambda s.t x

    j : Joining s x
    j = joining s x g.ascending g.links

-- ---- a new micro-cluster
numbered_born : (n : ℕ) (s : State) (x : List Float) → n ≤ clock_most → Numbered n s.held → Numbered (n + 1) (born s x)
numbered_born n s x small g =
    record {
      ascending = ascending_snoc Older s.held.micros new g.ascending g.below_next;
      below_next = each_append (λ (m : DbMicro). m.id.0 < (s.held.next + 1) % 2 ^ 64) s.held.micros (new ∷ [])
          (each_more (λ (m : DbMicro) (h : m.id.0 < s.held.next). subst (λ (k : ℕ). m.id.0 < k) (sym grows) (omega arith)) s.held.micros
          g.below_next)
          (subst (λ (k : ℕ). s.held.next < k) (sym grows) (omega arith), tt);
      next_limit = subst (λ (k : ℕ). k ≤ n + 1) (sym grows) (let l : s.held.next ≤ n = g.next_limit in omega arith);
      links = more_live s.held.micros (s.held.micros ++ (new ∷ [])) (λ a l. (l.0, in_append l.0 s.held.micros (new ∷ []) l.1, l.2))
          s.held.links g.links;
    }
  where
    new : DbMicro
    new = newborn s.params.settings.dim (record { 0 = s.held.next }) s.t x

    grows : (s.held.next + 1) % 2 ^ 64 ≡ s.held.next + 1
    grows = let l : s.held.next ≤ n = g.next_limit in omega arith

numbered_placed : (n : ℕ) (s : State) (x : List Float) → n ≤ clock_most → Numbered n s.held → Numbered (n + 1) (placed s x)
numbered_placed n s x small g = placed_cases (Numbered (n + 1)) s x (λ e. numbered_joined n s x g) (λ e. numbered_born n s x small g)

-- ---- the cleanup
numbered_cleanup : (n : ℕ) (p : Params) (t : Float) (h : Holdings) → Numbered n h → Numbered n (cleanup p t h)
numbered_cleanup n p t h g =
    record {
      ascending = ascending_retain Older stays h.micros g.ascending;
      below_next = each_retain (λ (m : DbMicro). m.id.0 < h.next) stays h.micros g.below_next;
      next_limit = g.next_limit;
      links = record {
        ascending = ascending_retain Before keep h.links g.links.ascending;
        smaller_first = each_retain (λ (l : Link). l.lo.0 < l.hi.0) keep h.links g.links.smaller_first;
        ends = each_more live_ends (retain keep h.links) (retain_passes keep h.links);
      };
    }
  where
    stays : DbMicro → Bool
    stays = micro_stays p.settings.lambda p.floor t

    ms : List DbMicro
    ms = retain stays h.micros

    keep : Link → Bool
    keep = link_stays p.settings.lambda p.floor t ms

    is_live : (a : MicroId) → is_held ms a ≡ true → Live ms a.0
    is_live a e = let m = any_in (λ (m : DbMicro). eqb m.id.0 a.0) ms e in (m.0, m.1, eqb-true m.0.id.0 a.0 m.2)

    live_ends : (l : Link) → keep l ≡ true → Held ms l
    live_ends l e =
        let b = and_true (is_held ms l.lo) (is_held ms l.hi) (not (lt (faded_link p.settings.lambda t l) p.floor)) e in
        (is_live l.lo b.0, is_live l.hi b.1)

-- ---- a point taken
-- an accepted insert, with its cleanup where one is due
pub numbered_taken : (n : ℕ) (s : State) (x : List Float) → n ≤ clock_most → Numbered n s.held → Numbered (n + 1) (taken_of s x).held
numbered_taken n s x small g =
    tick_cases dbstream (taking s (placed s x)) (nearest_for s x) (λ (u : State). Numbered (n + 1) u.held)
    (numbered_cleanup (n + 1) s.params (s.t ⊕ one) (placed s x) h) h
  where
    h : Numbered (n + 1) (placed s x)
    h = numbered_placed n s x small g

pub numbered_fresh : (p : Settings) → Numbered 0 (fresh p).held
numbered_fresh p =
    record { ascending = tt; below_next = tt; next_limit = omega arith; links = record { ascending = tt; smaller_first = tt; ends = tt } }

-- ---- a fresh one holds nothing near
pub none_near : (p : Settings) (x : List Float) → nearest_for (fresh p) x ≡ None
unfolding least_of
none_near p x = refl

-- ---- the whole run
-- after every insert of a list
pub numbered_run : (p : Settings) (xs : List (List Float)) → Numbered (accepted_in (told p xs)) (after p xs).held
numbered_run p xs =
    always dbstream has_place (λ (n : ℕ) (s : State). Numbered n s.held) (λ n s x c e. numbered_taken n s x c.limit) p (numbered_fresh p) xs

-- with the clock: what the claim says
pub from_fresh : (p : Settings) (xs : List (List Float)) → FromFresh (accepted_in (told p xs)) (after p xs)
from_fresh p xs =
    let g : Numbered (accepted_in (told p xs)) (after p xs).held = numbered_run p xs in
    record {
      clock = clock_counts dbstream has_place p xs;
      ascending = g.ascending;
      below_next = g.below_next;
      next_limit = g.next_limit;
      links = g.links;
    }
