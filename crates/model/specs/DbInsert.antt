-- Document 01, DBSTREAM: what a point and a cleanup do to what is held. Definitions only.
use Rattle.std.specs.Prelude.{ℕ, ◌+◌, ◌%◌, ◌^◌, Bool, cond, not, ◌&&◌, ◌||◌, List, [], ◌∷◌, ◌++◌, map, length, ◌==◌, nat_eq, nat_lt, Float, None, Some}
use mathlib.Core.List.{foldl}
use Rattle.std.specs.Float.Ieee.{lt, le}
use Rattle.float.specs.Rounded.{◌⊕◌, ◌⊗◌, nought, one}
use Rattle.float.specs.Order.{smaller}
use Rattle.lists.specs.Retain.{retain}
use Rattle.model.specs.declared.micro.MicroId.{MicroId}
use Rattle.model.specs.declared.micro.DbMicro.{DbMicro}
use Rattle.model.specs.declared.link.Link.{Link}
use Rattle.model.specs.Any.{any}
use Rattle.model.specs.Limits.{links_most}
use Rattle.model.specs.Fading.{faded_to}
use Rattle.model.specs.Body.{birth, absorbing, faded_weight, distance_to}
use Rattle.model.specs.DbState.{Params, Holdings, State}
use Rattle.drift.specs.Monitor.{Nearest}

-- a link, faded to the clock t
abbrev pub faded_link : (lambda t : Float) → Link → Float
faded_link lambda t l = faded_to lambda t l.value l.last

-- ---- the neighbours
-- "Neighbours are the micro-clusters whose mean has squared distance at most r×r, all measured before any changes."
abbrev pub is_neighbour : (r : Float) → List Float → DbMicro → Bool
is_neighbour r x m = le (distance_to x m.body) (r ⊗ r)

abbrev pub neighbours_of : State → List Float → List DbMicro
neighbours_of s x = retain (is_neighbour s.params.settings.r x) s.held.micros

abbrev pub is_absorbed : State → List Float → Bool
is_absorbed s x = any (is_neighbour s.params.settings.r x) s.held.micros

-- "DBSTREAM's nearest is the minimum, a NaN losing to a number"
unfoldable pub least_of : List Float → Nearest
least_of [] = None
least_of (d ∷ rest) = Some (foldl smaller d rest)

abbrev pub distances_of : State → List Float → List Float
distances_of s x = map (λ (m : DbMicro). distance_to x m.body) s.held.micros

-- ---- the micro-clusters
-- "With none, a new one goes to the end, with the next creation number from 0"
abbrev pub newborn : (dim : ℕ) → MicroId → (t : Float) → List Float → DbMicro
newborn dim id t x = record { body = birth dim t x; id = id }

abbrev pub absorbs : (lambda t : Float) → List Float → DbMicro → DbMicro
absorbs lambda t x m = record { body = absorbing lambda t x m.body; id = m.id }

-- "each neighbour fades to t and absorbs the point", and no other
abbrev pub absorbed : (r lambda t : Float) → List Float → DbMicro → DbMicro
absorbed r lambda t x m = cond (is_neighbour r x m) (absorbs lambda t x m) m

-- ---- the links
-- "Links are keyed by creation number, smaller first"
abbrev pub pair_of : MicroId → MicroId → MicroId × MicroId
pair_of a b = cond (nat_lt a.0 b.0) (a, b) (b, a)

-- "each pair of neighbours"
unfoldable pub pairs_of : List MicroId → List (MicroId × MicroId)
pairs_of [] = []
pairs_of (a ∷ rest) = map (pair_of a) rest ++ pairs_of rest

-- "0 if absent"
abbrev pub absent : (lo hi : MicroId) (t : Float) → Link
absent lo hi t = record { lo = lo; hi = hi; value = nought; last = t }

-- "fades to t and gains 1"
abbrev pub gains : (lambda t : Float) → Link → Link
gains lambda t l = record { lo = l.lo; hi = l.hi; value = faded_link lambda t l ⊕ one; last = t }

-- the order of links, by (lo, hi)
abbrev pub before : Link → Link → Bool
before l k = nat_lt l.lo.0 k.lo.0 || (l.lo.0 == k.lo.0 && nat_lt l.hi.0 k.hi.0)

abbrev pub same_ends : Link → Link → Bool
same_ends l k = l.lo.0 == k.lo.0 && l.hi.0 == k.hi.0

-- the link of k's ends gains 1, at its place in the order; a list without room takes no new one
unfoldable pub gain_in : (lambda t : Float) (room : Bool) → Link → List Link → List Link
gain_in lambda t room k [] = cond room (gains lambda t k ∷ []) []
gain_in lambda t room k (l ∷ rest) =
    cond (before l k) (l ∷ gain_in lambda t room k rest)
    (cond (same_ends l k) (gains lambda t l ∷ rest) (cond room (gains lambda t k ∷ l ∷ rest) (l ∷ rest)))

abbrev pub has_room : List Link → Bool
has_room ls = nat_lt (length ls) links_most

abbrev pub gain_of : (lambda t : Float) → List Link → MicroId × MicroId → List Link
gain_of lambda t ls p = gain_in lambda t (has_room ls) (absent p.0 p.1 t) ls

-- ---- a point taken
-- a new micro-cluster; creation numbers are 64 bits wide
abbrev pub born : State → List Float → Holdings
born s x =
    record {
      next = (s.held.next + 1) % 2 ^ 64;
      micros = s.held.micros ++ newborn s.params.settings.dim (record { 0 = s.held.next }) s.t x ∷ [];
      links = s.held.links;
    }

abbrev pub id_of : DbMicro → MicroId
id_of m = m.id

-- "each neighbour fades to t and absorbs the point; then for each pair of neighbours the link (0 if absent) fades to t and gains 1"
abbrev pub joined : State → List Float → Holdings
joined s x =
    record {
      next = s.held.next;
      micros = map (absorbed s.params.settings.r s.params.settings.lambda s.t x) s.held.micros;
      links = foldl (gain_of s.params.settings.lambda s.t) s.held.links (pairs_of (map id_of (neighbours_of s x)));
    }

abbrev pub placed : State → List Float → Holdings
placed s x = cond (is_absorbed s x) (joined s x) (born s x)

-- the drift distance, taken before the neighbours' means move
abbrev pub nearest_for : State → List Float → Nearest
nearest_for s x = least_of (distances_of s x)

-- ---- the cleanup: "micro-clusters of faded weight below floor go, then links that lost an end or faded below floor. Survivors keep their order."
abbrev pub micro_stays : (lambda floor t : Float) → DbMicro → Bool
micro_stays lambda floor t m = not (lt (faded_weight lambda t m.body) floor)

abbrev pub is_held : List DbMicro → MicroId → Bool
is_held ms id = any (λ (m : DbMicro). nat_eq m.id.0 id.0) ms

abbrev pub link_stays : (lambda floor t : Float) → List DbMicro → Link → Bool
link_stays lambda floor t ms l = is_held ms l.lo && is_held ms l.hi && not (lt (faded_link lambda t l) floor)

abbrev pub cleanup : Params → (t : Float) → Holdings → Holdings
cleanup p t h =
    let ms : List DbMicro = retain (micro_stays p.settings.lambda p.floor t) h.micros in
    record { next = h.next; micros = ms; links = retain (link_stays p.settings.lambda p.floor t ms) h.links }
