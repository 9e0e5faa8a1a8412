-- How many links there can be: no more than pairs of micro-clusters, so the list is never full.
use Prim.Native.Nat.{ℕ, suc, ◌+◌, ◌-◌, ◌*◌, ◌<◌, ◌≤◌}
use mathlib.Core.Path.{◌≡◌, refl, sym, ap, ◌∙◌, subst}
use mathlib.Core.Logic.{◌⊎◌, inl, inr, ⊎_elim, ◌≢◌}
use mathlib.Core.Bool.{Bool, true, false, not, ◌||◌, cond}
use mathlib.Core.List.{List, [], ◌∷◌, map, foldl}
use native.Mathlib.Omega.{arith}
use native.Mathlib.Nat.{mul-sub, mul-one, mul-suc, suc-mul, mul-le-mul}
use lib.Dec.{eqb, ltb}
use lib.ListN.{length, length-map, length-append}
use lib.Ieee.{Float}
use borrow.Author.Tests.{ltb-true, ltb-false, eqb-true, eqb-false, not-true}
use Rattle.lists.specs.Each.{Each}
use Rattle.lists.specs.Laws.Each.{each_more}
use Rattle.float.specs.Rounded.{◌⊕◌, one}
use Rattle.lists.specs.Retain.{retain}
use Rattle.lists.specs.Laws.Sizes.{retain_length}
use Rattle.model.specs.declared.micro.MicroId.{MicroId}
use Rattle.model.specs.declared.micro.DbMicro.{DbMicro}
use Rattle.model.specs.declared.link.Link.{Link}
use Rattle.model.specs.Limits.{micros_most, links_most}
use Rattle.model.specs.Run.{accepted_in}
use Rattle.model.specs.DbState.{Settings, Holdings, State}
use Rattle.model.specs.DbInsert.{id_of, pairs_of, gains, absent, before, same_ends, gain_in, has_room, gain_of, newborn, absorbed, micro_stays, neighbours_of, joined}
use Rattle.model.specs.DbInsert.{placed, nearest_for}
use Rattle.model.specs.Dbstream.{dbstream, taken_of, has_place}
use Rattle.model.specs.Stream.{taking}
use Rattle.model.proofs.Laws.Stream.{tick_cases}
use Rattle.claims.specs.Lists.{In, Ascending}
use Rattle.claims.specs.DbClaims.{Older, Before, Live, LinksHeld, FromFresh, Fits, gain_unbounded, after, told}
use Rattle.claims.proofs.Places.{each_in}
use Rattle.claims.proofs.Order.{each_retain, ascending_retain, retain_passes, each_map, ascending_map, in_map}
use Rattle.claims.proofs.Runs.{always}
use Rattle.claims.proofs.DbCases.{placed_cases}
use Rattle.claims.proofs.DbFresh.{Held, GoodPair, Joining, a_gain, one_gain, joining, joined_ascends, from_fresh}

-- numbers that ascend, all of them among others that ascend: no more of them
ascending_length : (bs cs : List ℕ) → Ascending ◌<◌ bs → Ascending ◌<◌ cs → Each (λ (c : ℕ). In c bs) cs → length cs ≤ length bs
ascending_length bs [] u w e = omega arith
ascending_length [] (c ∷ cs) u w e = absurd e.0
ascending_length (b ∷ bs) (c ∷ cs) u w e =
    ⊎_elim
    (λ (q : c ≡ b).
    let h : length cs ≤ length bs = ascending_length bs cs u.1 w.1 (others (omega arith)) in
    omega arith)
    (λ (i : In c bs).
    let l : b < c = each_in (b <◌) bs c u.0 i in
    let h : length (c ∷ cs) ≤ length bs = ascending_length bs (c ∷ cs) u.1 w (i, others (omega arith)) in
    omega arith)
    e.0
  where
    past : (d : ℕ) → b < d → In d (b ∷ bs) → In d bs
    past d h i = ⊎_elim (λ (q : d ≡ b). absurd (omega arith)) (λ j. j) i

    both : (l : List ℕ) → Each (c <◌) l → Each (λ (d : ℕ). In d (b ∷ bs)) l → Each (λ (d : ℕ). (c < d) × In d (b ∷ bs)) l
    both [] p q = tt
    both (d ∷ l) p q = ((p.0, q.0), both l p.1 q.1)

    -- those behind c are above b, so among those behind b
    others : b ≤ c → Each (λ (d : ℕ). In d bs) cs
    others h = each_more (λ (d : ℕ) (g : (c < d) × In d (b ∷ bs)). past d (omega arith) g.1) cs (both cs w.0 e.1)

-- a list is what passes a test and what does not
length_split : {A : Type 0} (p : A → Bool) (l : List A) → length l ≡ length (retain p l) + length (retain (λ (a : A). not (p a)) l)
unfolding retain
length_split p [] = refl
length_split {A} p (a ∷ l) = go (p a) (length_split p l)
  where
    go :
        (b : Bool) →
        length l ≡ length (retain p l) + length (retain (λ (a : A). not (p a)) l) →
        suc (length l)
        ≡ length (cond b (a ∷ retain p l) (retain p l))
        + length (cond (not b) (a ∷ retain (λ (a : A). not (p a)) l) (retain (λ (a : A). not (p a)) l))
    go true e = omega arith
    go false e = omega arith

-- links in order, the smaller end first, both ends among the numbers
record Within (ids : List ℕ) (ls : List Link) : Type 0 where
  ascending : Ascending Before ls
  smaller : Each (λ (l : Link). l.lo.0 < l.hi.0) ls
  ends : Each (λ (l : Link). In l.lo.0 ids × In l.hi.0 ids) ls

his_ascend : (a : ℕ) (ls : List Link) → Each (λ (l : Link). l.lo.0 ≡ a) ls → Ascending Before ls → Ascending ◌<◌ (map (λ (l : Link). l.hi.0) ls)
his_ascend a [] e h = tt
his_ascend a (l ∷ ls) e h = (least, his_ascend a ls e.1 h.1)
  where
    above : (k : Link) → Before l k × (k.lo.0 ≡ a) → l.hi.0 < k.hi.0
    above k g =
        let x : l.lo.0 ≡ a = e.0 in
        let y : k.lo.0 ≡ a = g.1 in
        ⊎_elim (λ (q : l.lo.0 < k.lo.0). absurd (omega arith)) (λ q. q.1) g.0

    both : (ks : List Link) → Each (Before l) ks → Each (λ (k : Link). k.lo.0 ≡ a) ks → Each (λ (k : Link). Before l k × (k.lo.0 ≡ a)) ks
    both [] p q = tt
    both (k ∷ ks) p q = ((p.0, q.0), both ks p.1 q.1)

    least : Each (l.hi.0 <◌) (map (λ (k : Link). k.hi.0) ls)
    least = each_map (λ (k : Link). Before l k × (k.lo.0 ≡ a)) (l.hi.0 <◌) (λ (k : Link). k.hi.0) above ls (both ls h.0 e.1)

-- no more links than pairs of the numbers
pairs_most : (ids : List ℕ) → Ascending ◌<◌ ids → (ls : List Link) → Within ids ls → 2 * length ls + length ids ≤ length ids * length ids
pairs_most [] u [] w = omega arith
pairs_most [] u (l ∷ ls) w = absurd w.ends.0.0
pairs_most (a ∷ ids) u ls w =
    let h : length (retain firsts ls) ≤ length ids = firsts_most in
    let r : 2 * length (retain others ls) + length ids ≤ length ids * length ids = pairs_most ids u.1 (retain others ls) rest in
    let e : length ls ≡ length (retain firsts ls) + length (retain others ls) = length_split firsts ls in
    let q : suc (length ids) * suc (length ids) ≡ length ids * length ids + 2 * length ids + 1 = simp (mul-suc, suc-mul) (omega arith) in
    omega arith
  where
    firsts : Link → Bool
    firsts l = eqb l.lo.0 a

    others : Link → Bool
    others l = not (firsts l)

    -- what is known of each link
    Known : Link → Type 0
    Known l = (l.lo.0 < l.hi.0) × In l.lo.0 (a ∷ ids) × In l.hi.0 (a ∷ ids)

    known :
        (ks : List Link) →
        Each (λ (l : Link). l.lo.0 < l.hi.0) ks →
        Each (λ (l : Link). In l.lo.0 (a ∷ ids) × In l.hi.0 (a ∷ ids)) ks →
        Each Known ks
    known [] p q = tt
    known (k ∷ ks) p q = ((p.0, q.0.0, q.0.1), known ks p.1 q.1)

    past : (b : ℕ) → b ≢ a → In b (a ∷ ids) → In b ids
    past b h i = ⊎_elim (λ e. absurd (h e)) (λ j. j) i

    with_test : (p : Link → Bool) (ks : List Link) → Each Known ks → Each (λ (l : Link). p l ≡ true) ks → Each (λ (l : Link). Known l × (p l ≡ true)) ks
    with_test p [] d e = tt
    with_test p (k ∷ ks) d e = ((d.0, e.0), with_test p ks d.1 e.1)

    all : Each Known ls
    all = known ls w.smaller w.ends

    starts : Each (λ (l : Link). l.lo.0 ≡ a) (retain firsts ls)
    starts = each_more (λ (l : Link) (e : firsts l ≡ true). eqb-true l.lo.0 a e) (retain firsts ls) (retain_passes firsts ls)

    first : (l : Link) → Known l × (firsts l ≡ true) → In l.hi.0 ids
    first l g =
        let e : l.lo.0 ≡ a = eqb-true l.lo.0 a g.1 in
        let h : l.lo.0 < l.hi.0 = g.0.0 in
        past l.hi.0 (λ (q : l.hi.0 ≡ a). omega arith) g.0.2

    his : Each (λ (c : ℕ). In c ids) (map (λ (l : Link). l.hi.0) (retain firsts ls))
    his =
        each_map (λ (l : Link). Known l × (firsts l ≡ true)) (λ (c : ℕ). In c ids) (λ (l : Link). l.hi.0)
        first (retain firsts ls) (with_test firsts (retain firsts ls) (each_retain Known firsts ls all) (retain_passes firsts ls))

    his_ascending : Ascending ◌<◌ (map (λ (l : Link). l.hi.0) (retain firsts ls))
    his_ascending = his_ascend a (retain firsts ls) starts (ascending_retain Before firsts ls w.ascending)

    -- no more links start at a than there are numbers above it
    firsts_most : length (retain firsts ls) ≤ length ids
    firsts_most =
        subst (λ (k : ℕ). k ≤ length ids) (length-map (retain firsts ls) (λ (l : Link). l.hi.0))
        (ascending_length ids (map (λ (l : Link). l.hi.0) (retain firsts ls)) u.1 his_ascending his)

    later : (l : Link) → Known l × (others l ≡ true) → In l.lo.0 ids × In l.hi.0 ids
    later l g =
        let i : In l.lo.0 ids = past l.lo.0 (eqb-false l.lo.0 a (not-true (firsts l) g.1)) g.0.1 in
        let h : a < l.lo.0 = each_in (a <◌) ids l.lo.0 u.0 i in
        let k : l.lo.0 < l.hi.0 = g.0.0 in
        (i, past l.hi.0 (λ (q : l.hi.0 ≡ a). omega arith) g.0.2)

    rest : Within ids (retain others ls)
    rest = record {
      ascending = ascending_retain Before others ls w.ascending;
      smaller = each_retain (λ (l : Link). l.lo.0 < l.hi.0) others ls w.smaller;
      ends = each_more later (retain others ls) (with_test others (retain others ls) (each_retain Known others ls all) (retain_passes others ls));
    }

-- the links of a stream whose creation numbers ascend
abbrev number : DbMicro → ℕ
number m = m.id.0

good_most : (ms : List DbMicro) → Ascending Older ms → (ls : List Link) → LinksHeld ms ls → 2 * length ls + length ms ≤ length ms * length ms
good_most ms u ls g =
    subst (λ (k : ℕ). 2 * length ls + k ≤ k * k) (length-map ms number)
    (pairs_most (map number ms) (ascending_map Older ◌<◌ number (λ (a b : DbMicro) (h : Older a b). h) ms u) ls within)
  where
    among : (a : ℕ) → Live ms a → In a (map number ms)
    among a l = subst (λ (b : ℕ). In b (map number ms)) l.2 (in_map number ms l.0 l.1)

    within : Within (map number ms) ls
    within = record {
      ascending = g.ascending;
      smaller = g.smaller_first;
      ends = each_more (λ (l : Link) (h : Held ms l). (among l.lo.0 h.0, among l.hi.0 h.1)) ls g.ends;
    }

-- n numbers have at most n × (n − 1) / 2 pairs, and 64 have 2,016
as_pairs : (n k : ℕ) → 2 * k + n ≤ n * n → 2 * k ≤ n * (n - 1)
as_pairs n k h =
    let e : n * (n - 1) ≡ n * n - n * 1 = mul-sub n n 1 in
    let f : n * 1 ≡ n = mul-one n in
    omega arith

most : (n k : ℕ) → n ≤ micros_most → 2 * k ≤ n * (n - 1) → k ≤ links_most
most n k h l =
    let g : n - 1 ≤ micros_most - 1 = omega arith in
    let e : n * (n - 1) ≤ micros_most * (micros_most - 1) = mul-le-mul h g in
    omega arith

-- ---- room for every gain
module _ (lambda t : Float) where
  -- with room or without: the same list, or one link more
  grows : (k : Link) (ls : List Link) → (gain_in lambda t true k ls ≡ gain_in lambda t false k ls) ⊎ (length (gain_in lambda t true k ls) ≡ suc (length ls))
  unfolding gain_in
  grows k [] = inr refl
  grows k (l ∷ ls) = go (before l k) (same_ends l k) (grows k ls)
    where
      go :
          (a b : Bool) →
          (gain_in lambda t true k ls ≡ gain_in lambda t false k ls) ⊎ (length (gain_in lambda t true k ls) ≡ suc (length ls)) →
          (cond a (l ∷ gain_in lambda t true k ls) (cond b (gains lambda t l ∷ ls) (gains lambda t k ∷ l ∷ ls))
          ≡ cond a (l ∷ gain_in lambda t false k ls) (cond b (gains lambda t l ∷ ls) (l ∷ ls)))
          ⊎ (length (cond a (l ∷ gain_in lambda t true k ls) (cond b (gains lambda t l ∷ ls) (gains lambda t k ∷ l ∷ ls))) ≡ suc (suc (length ls)))
      go true b ih = ⊎_elim (λ e. inl (ap {B = List Link} (λ r. l ∷ r) e)) (λ e. inr (ap suc e)) ih
      go false true ih = inl refl
      go false false ih = inr refl

  module _ (ms : List DbMicro) (u : Ascending Older ms) (few : length ms ≤ micros_most) where
    links_most_lem : (ls : List Link) → LinksHeld ms ls → length ls ≤ links_most
    links_most_lem ls g = most (length ms) (length ls) few (as_pairs (length ms) (length ls) (good_most ms u ls g))

    -- a gain is the one in a list without bound: a full list has every pair already
    pub gain_room : (ls : List Link) (p : MicroId × MicroId) → LinksHeld ms ls → GoodPair ms p → gain_of lambda t ls p ≡ gain_unbounded lambda t ls p
    gain_room ls p g q = go (has_room ls) refl
      where
        k : Link
        k = absent p.0 p.1 t

        more : LinksHeld ms (gain_in lambda t true k ls)
        more = a_gain lambda t true ms ls p g q

        go : (b : Bool) → has_room ls ≡ b → gain_in lambda t b k ls ≡ gain_in lambda t true k ls
        go true e = refl
        go false e =
            let full : links_most ≤ length ls = ltb-false (length ls) links_most e in
            let bound : length (gain_in lambda t true k ls) ≤ links_most = links_most_lem (gain_in lambda t true k ls) more in
            ⊎_elim (λ s. sym s) (λ s. absurd (omega arith)) (grows k ls)

    -- and so are all the gains of an insert
    pub gains_room :
        (ps : List (MicroId × MicroId)) (ls : List Link) →
        Each (GoodPair ms) ps →
        LinksHeld ms ls →
        foldl (gain_of lambda t) ls ps ≡ foldl (gain_unbounded lambda t) ls ps
    gains_room [] ls e g = refl
    gains_room (p ∷ ps) ls e g =
        gains_room ps (gain_of lambda t ls p) e.1 (one_gain lambda t ms ls p g e.0)
        ∙ ap (λ (r : List Link). foldl (gain_unbounded lambda t) r ps) (gain_room ls p g e.0)

-- ---- at most 64 micro-clusters
abbrev Few : Holdings → Type 0
Few h = length h.micros ≤ micros_most

few_placed : (s : State) (x : List Float) → has_place s x ≡ true → Few s.held → Few (placed s x)
few_placed s x e h =
    placed_cases Few s x (λ q. omega (arith, length-map s.held.micros (absorbed s.params.settings.r s.params.settings.lambda s.t x)))
    (λ q.
    let l : length s.held.micros < micros_most =
    ltb-true (length s.held.micros) micros_most (sym (ap (λ (b : Bool). b || ltb (length s.held.micros) micros_most) q) ∙ e) in
    omega (arith, length-append s.held.micros (newborn s.params.settings.dim (record { 0 = s.held.next }) s.t x ∷ [])))

few_taken : (s : State) (x : List Float) → has_place s x ≡ true → Few s.held → Few (taken_of s x).held
few_taken s x e h =
    let f : Few (placed s x) = few_placed s x e h in
    tick_cases dbstream (taking s (placed s x)) (nearest_for s x) (λ (u : State). Few u.held)
    (omega (arith, f, retain_length (micro_stays s.params.settings.lambda s.params.floor (s.t ⊕ one)) (placed s x).micros)) f

pub micros_within : (p : Settings) (xs : List (List Float)) → length (after p xs).held.micros ≤ micros_most
micros_within p xs = always dbstream has_place (λ (n : ℕ) (s : State). Few s.held) (λ n s x c e. few_taken s x e) p (omega arith) xs

-- the claim: all there is fits
pub fits : (p : Settings) (xs : List (List Float)) → Fits (after p xs)
fits p xs =
    record {
      micros = few;
      pairs = pairs_are;
      links = most (length s.held.micros) (length s.held.links) few pairs_are;
      number = omega (arith, f.next_limit, f.clock.limit);
      room_for_all = λ x. gains_room s.params.settings.lambda s.t (joined s x).micros (joined_ascends s x f.ascending)
          (omega (arith, few, length-map s.held.micros (absorbed s.params.settings.r s.params.settings.lambda s.t x)))
          (pairs_of (map id_of (neighbours_of s x))) s.held.links (join x).pairs (join x).links;
    }
  where
    s : State
    s = after p xs

    n : ℕ
    n = accepted_in (told p xs)

    f : FromFresh n s
    f = from_fresh p xs

    join : (x : List Float) → Joining s x
    join x = joining s x f.ascending f.links

    few : length s.held.micros ≤ micros_most
    few = micros_within p xs

    pairs_are : 2 * length s.held.links ≤ length s.held.micros * (length s.held.micros - 1)
    pairs_are = as_pairs (length s.held.micros) (length s.held.links) (good_most s.held.micros f.ascending s.held.links f.links)
