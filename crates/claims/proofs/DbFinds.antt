-- DBSTREAM's pairs due ascend by place, the lower place first, wherever creation numbers and links ascend.
use Prim.Native.Nat.{ℕ, ◌<◌, ◌≤◌}
use mathlib.Core.Path.{◌≡◌, refl, sym, ap, ◌∙◌, subst}
use mathlib.Core.Logic.{◌≢◌, inl, inr, ⊎_elim, by_cases}
use mathlib.Core.Bool.{Bool, true, false, cond}
use mathlib.Core.List.{List, [], ◌∷◌, map}
use native.Mathlib.Omega.{arith}
use native.Mathlib.Decide.{ℕ_discrete}
use lib.ListN.{length, length-map}
use borrow.Author.Tests.{eq-eqb, ne_eqb}
use Rattle.lists.specs.Each.{Each}
use Rattle.lists.specs.Laws.Each.{each_more}
use Rattle.lists.specs.Retain.{retain}
use Rattle.model.specs.declared.micro.MicroId.{MicroId}
use Rattle.model.specs.declared.micro.DbMicro.{DbMicro}
use Rattle.model.specs.declared.link.Link.{Link}
use Rattle.model.specs.Limits.{micros_most}
use Rattle.model.specs.DbState.{State}
use Rattle.model.specs.DbCluster.{place_of, is_strong, strong_ones, strong_at, is_dense, ends_of, joins, joins_of}
use Rattle.model.specs.Dbstream.{dbstream}
use Rattle.claims.specs.Lists.{PairBefore, Ascending}
use Rattle.claims.specs.Finds.{FindsTold}
use Rattle.claims.specs.DbClaims.{Older, Before, Live, LinksHeld}
use Rattle.claims.proofs.Order.{and_true, each_both, each_map, ascending_map, each_retain, ascending_retain, retain_passes}
use Rattle.claims.proofs.Places.{each_in}
use Rattle.claims.proofs.Finds.{places_count, Within, finds_told}
use Rattle.claims.proofs.DbLabels.{strong_below}

-- of two numbers that are held the smaller stands at the lower place
place_less :
    (ms : List DbMicro) → Ascending Older ms → (a b : MicroId) → Live ms a.0 → Live ms b.0 → a.0 < b.0 →
    place_of ms a < place_of ms b
unfolding place_of
place_less [] asc a b la lb h = absurd la.1
place_less (m ∷ ms) asc a b la lb h =
    by_cases (ℕ_discrete m.id.0 a.0)
    (λ e. rw (eq-eqb m.id.0 a.0 e, ne_eqb m.id.0 b.0 (λ (q : m.id.0 ≡ b.0). omega arith)) (omega arith))
    (λ n.
    let here : Live ms a.0 = behind a la n in
    let older : m.id.0 < a.0 = above a here in
    let other : m.id.0 ≢ b.0 = λ (q : m.id.0 ≡ b.0). omega arith in
    let later : place_of ms a < place_of ms b = place_less ms asc.1 a b here (behind b lb other) h in
    rw (ne_eqb m.id.0 a.0 n, ne_eqb m.id.0 b.0 other) (omega arith))
  where
    behind : (c : MicroId) → Live (m ∷ ms) c.0 → m.id.0 ≢ c.0 → Live ms c.0
    behind c w n = ⊎_elim (λ q. absurd (n (ap (λ (u : DbMicro). u.id.0) (sym q) ∙ w.2))) (λ i. (w.0, i, w.2)) w.1

    above : (c : MicroId) → Live ms c.0 → m.id.0 < c.0
    above c w = let o : m.id.0 < w.0.id.0 = each_in (Older m) ms w.0 asc.0 w.1 in omega (arith, w.2)

module _ (s : State) where
  -- the links that join, by their places
  joins_are : (ls : List Link) → joins_of s ls ≡ map (ends_of s) (retain (joins s) ls)
  unfolding joins_of retain
  joins_are [] = refl
  joins_are (l ∷ ls) = go (joins s l) (joins_are ls)
    where
      go :
          (t : Bool) → joins_of s ls ≡ map (ends_of s) (retain (joins s) ls) →
          cond t (ends_of s l ∷ joins_of s ls) (joins_of s ls) ≡ map (ends_of s) (cond t (l ∷ retain (joins s) ls) (retain (joins s) ls))
      go true e = ap (λ (ps : List (ℕ × ℕ)). ends_of s l ∷ ps) e
      go false e = e

  abbrev Ends : Link → Type 0
  Ends l = Live s.held.micros l.lo.0 × Live s.held.micros l.hi.0

  module _ (asc : Ascending Older s.held.micros) where
    -- the links' order is that of their places
    by_place : (l k : Link) → Ends l → Ends k → Before l k → PairBefore (ends_of s l) (ends_of s k)
    by_place l k u v =
        ⊎_elim (λ h. inl (place_less s.held.micros asc l.lo k.lo u.0 v.0 h))
        (λ h. inr (ap (λ (a : ℕ). place_of s.held.micros (record { 0 = a })) h.0, place_less s.held.micros asc l.hi k.hi u.1 v.1 h.1))

    by_places : (ls : List Link) → Each Ends ls → Ascending Before ls → Ascending (λ (l k : Link). PairBefore (ends_of s l) (ends_of s k)) ls
    by_places [] e h = tt
    by_places (l ∷ ls) e h =
        (each_more (λ (k : Link) w. by_place l k e.0 w.0 w.1) ls (each_both Ends (Before l) ls e.1 h.0), by_places ls e.1 h.1)

    module _ (held : LinksHeld s.held.micros s.held.links) where
      abbrev links : List Link
      links = s.held.links

      ascends : Ascending PairBefore (joins_of s links)
      ascends =
          subst (Ascending PairBefore) (sym (joins_are links))
          (ascending_map (λ (l k : Link). PairBefore (ends_of s l) (ends_of s k)) PairBefore (ends_of s) (λ l k h. h) (retain (joins s) links)
          (ascending_retain (λ (l k : Link). PairBefore (ends_of s l) (ends_of s k)) (joins s) links (by_places links held.ends held.ascending)))

      lower : Each (λ (l : Link). (ends_of s l).0 < (ends_of s l).1) links
      lower =
          each_more (λ (l : Link) w. place_less s.held.micros asc l.lo l.hi w.0.0 w.0.1 w.1) links
          (each_both Ends (λ (l : Link). l.lo.0 < l.hi.0) links held.ends held.smaller_first)

      within : Each (Within (length (strong_ones s))) (joins_of s links)
      within =
          subst (Each (Within (length (strong_ones s)))) (sym (joins_are links))
          (each_map (λ (l : Link). ((ends_of s l).0 < (ends_of s l).1) × (joins s l ≡ true)) (Within (length (strong_ones s))) (ends_of s)
          (λ l w. (w.0, strong_below s (ends_of s l).1 (and_true (strong_at s (ends_of s l).0) (strong_at s (ends_of s l).1) (is_dense s l) w.1).1))
          (retain (joins s) links)
          (each_both (λ (l : Link). (ends_of s l).0 < (ends_of s l).1) (λ (l : Link). joins s l ≡ true) (retain (joins s) links)
          (each_retain (λ (l : Link). (ends_of s l).0 < (ends_of s l).1) (joins s) links lower) (retain_passes (joins s) links)))

      pub told : length s.held.micros ≤ micros_most → FindsTold dbstream s (length (retain (is_strong s) s.held.micros))
      told few =
          finds_told dbstream s (omega (arith, length-map s.held.micros (is_strong s))) (length (retain (is_strong s) s.held.micros))
          (places_count (is_strong s) 0 s.held.micros) ascends within
