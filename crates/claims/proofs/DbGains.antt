-- The link list through the gains of an insert: it stays in order, and its links' ends stay what they were.
use Prim.Native.Nat.{ℕ, ◌<◌, ◌≤◌}
use mathlib.Core.Path.{◌≡◌, refl, sym, ◌∙◌, subst}
use mathlib.Core.Logic.{◌⊎◌, inl, inr, ⊎_elim}
use mathlib.Core.Bool.{Bool, true, false, ◌&&◌, ◌||◌, cond, true≢false}
use mathlib.Core.List.{List, [], ◌∷◌, map, foldl}
use native.Mathlib.Omega.{arith}
use lib.Dec.{eqb, ltb}
use lib.Ieee.{Float}
use borrow.Author.Tests.{ltb-true, ltb-false, eqb-true, eqb-false, lt-ltb}
use Rattle.lists.specs.Each.{Each}
use Rattle.lists.specs.Laws.Each.{each_more, each_append}
use Rattle.model.specs.declared.micro.MicroId.{MicroId}
use Rattle.model.specs.declared.link.Link.{Link}
use Rattle.model.specs.DbInsert.{pair_of, pairs_of, gains, before, same_ends, gain_in, gain_of}
use Rattle.claims.specs.Lists.{In, Ascending}
use Rattle.claims.specs.DbClaims.{Before}
use Rattle.claims.proofs.Order.{each_map}

-- ---- the order of links
-- the four tests, and which order they tell
order :
    (a b c d : ℕ) (p q : Bool) →
    (ltb a c || (eqb a c && ltb b d)) ≡ p →
    (eqb a c && eqb b d) ≡ q →
    (p ≡ true → (a < c) ⊎ ((a ≡ c) × (b < d))) × (p ≡ false → q ≡ false → (c < a) ⊎ ((c ≡ a) × (d < b)))
order a b c d p q e f = go (ltb a c) (eqb a c) (ltb b d) (eqb b d) refl refl refl refl e f
  where
    go :
        (x y z w : Bool) →
        ltb a c ≡ x →
        eqb a c ≡ y →
        ltb b d ≡ z →
        eqb b d ≡ w →
        (x || (y && z)) ≡ p →
        (y && w) ≡ q →
        (p ≡ true → (a < c) ⊎ ((a ≡ c) × (b < d))) × (p ≡ false → q ≡ false → (c < a) ⊎ ((c ≡ a) × (d < b)))
    go true y z w ex ey ez ew e f = ((λ t. inl (ltb-true a c ex)), (λ t u. absurd (true≢false (e ∙ t))))
    go false true true w ex ey ez ew e f = ((λ t. inr (eqb-true a c ey, ltb-true b d ez)), (λ t u. absurd (true≢false (e ∙ t))))
    go false true false true ex ey ez ew e f = ((λ t. absurd (true≢false (sym t ∙ sym e))), (λ t u. absurd (true≢false (f ∙ u))))
    go false true false false ex ey ez ew e f =
        let h : d ≤ b = ltb-false b d ez in
        let g : b ≡ d → ⊥ = eqb-false b d ew in
        ((λ t. absurd (true≢false (sym t ∙ sym e))), (λ t u. inr (sym (eqb-true a c ey), omega arith)))
    go false false z w ex ey ez ew e f =
        let h : c ≤ a = ltb-false a c ex in
        let g : a ≡ c → ⊥ = eqb-false a c ey in
        ((λ t. absurd (true≢false (sym t ∙ sym e))), (λ t u. inl (omega arith)))

before_is : (l k : Link) → before l k ≡ true → Before l k
before_is l k e = (order l.lo.0 l.hi.0 k.lo.0 k.hi.0 (before l k) (same_ends l k) refl refl).0 e

after_is : (l k : Link) → before l k ≡ false → same_ends l k ≡ false → Before k l
after_is l k e f = (order l.lo.0 l.hi.0 k.lo.0 k.hi.0 (before l k) (same_ends l k) refl refl).1 e f

-- the order goes on from link to link
pub before_trans : (j k l : Link) → Before j k → Before k l → Before j l
before_trans j k l p q =
    ⊎_elim (λ a. ⊎_elim (λ b. inl (omega arith)) (λ b. let e : k.lo.0 ≡ l.lo.0 = b.0 in inl (omega arith)) q)
    (λ a.
    let d : j.lo.0 ≡ k.lo.0 = a.0 in
    let c : j.hi.0 < k.hi.0 = a.1 in
    ⊎_elim (λ b. inl (omega arith))
    (λ b.
    let e : k.lo.0 ≡ l.lo.0 = b.0 in
    let f : k.hi.0 < l.hi.0 = b.1 in
    inr (d ∙ e, omega arith)) q) p

module _ (lambda t : Float) where
  -- a property of the ends that each link and the new one have stays
  pub gain_each :
      (Q : ℕ → ℕ → Type 0) (room : Bool) (k : Link) (ls : List Link) →
      Q k.lo.0 k.hi.0 →
      Each (λ (l : Link). Q l.lo.0 l.hi.0) ls →
      Each (λ (l : Link). Q l.lo.0 l.hi.0) (gain_in lambda t room k ls)
  unfolding gain_in
  gain_each Q true k [] q e = (q, tt)
  gain_each Q false k [] q e = tt
  gain_each Q room k (l ∷ ls) q e = go (before l k) (same_ends l k) room (gain_each Q room k ls q e.1)
    where
      P : List Link → Type 0
      P = Each (λ (l : Link). Q l.lo.0 l.hi.0)

      go :
          (a b c : Bool) →
          P (gain_in lambda t room k ls) →
          P (cond a (l ∷ gain_in lambda t room k ls) (cond b (gains lambda t l ∷ ls) (cond c (gains lambda t k ∷ l ∷ ls) (l ∷ ls))))
      go true b c ih = (e.0, ih)
      go false true c ih = (e.0, e.1)
      go false false true ih = (q, e)
      go false false false ih = e

  -- a gain leaves the list in order
  pub gain_ascending : (room : Bool) (k : Link) (ls : List Link) → Ascending Before ls → Ascending Before (gain_in lambda t room k ls)
  unfolding gain_in
  gain_ascending true k [] h = (tt, tt)
  gain_ascending false k [] h = tt
  gain_ascending room k (l ∷ ls) h = go (before l k) (same_ends l k) room refl refl (gain_ascending room k ls h.1)
    where
      go :
          (a b c : Bool) →
          before l k ≡ a →
          same_ends l k ≡ b →
          Ascending Before (gain_in lambda t room k ls) →
          Ascending Before (cond a (l ∷ gain_in lambda t room k ls) (cond b (gains lambda t l ∷ ls) (cond c (gains lambda t k ∷ l ∷ ls) (l ∷ ls))))
      go true b c e f ih = (gain_each (λ x y. (l.lo.0 < x) ⊎ ((l.lo.0 ≡ x) × (l.hi.0 < y))) room k ls (before_is l k e) h.0, ih)
      go false true c e f ih = (h.0, h.1)
      go false false true e f ih = ((after_is l k e f, each_more (λ (m : Link) b. before_trans k l m (after_is l k e f) b) ls h.0), (h.0, h.1))
      go false false false e f ih = h

  -- all the gains of an insert
  pub fold_gain :
      (I : List Link → Type 0) (G : MicroId × MicroId → Type 0) →
      ((ls : List Link) (p : MicroId × MicroId) → I ls → G p → I (gain_of lambda t ls p)) →
      (ps : List (MicroId × MicroId)) (ls : List Link) →
      Each G ps →
      I ls →
      I (foldl (gain_of lambda t) ls ps)
  fold_gain I G h [] ls e i = i
  fold_gain I G h (p ∷ ps) ls e i = fold_gain I G h ps (gain_of lambda t ls p) e.1 (h ls p i e.0)

-- ---- the pairs of neighbours
-- creation numbers in order
abbrev pub Smaller : MicroId → MicroId → Type 0
Smaller a b = a.0 < b.0

module _ (Q : MicroId → MicroId → Type 0) where
  pair_of_lem : (a b : MicroId) → Smaller a b → Q a b → Q (pair_of a b).0 (pair_of a b).1
  pair_of_lem a b h q =
      subst (λ (t : Bool). Q (cond {A = MicroId × MicroId} t (a, b) (b, a)).0 (cond {A = MicroId × MicroId} t (a, b) (b, a)).1)
      (sym (lt-ltb a.0 b.0 h)) q

  -- of numbers that ascend, each pair has the smaller first
  pub pairs_each :
      (ids : List MicroId) →
      Ascending Smaller ids →
      ((a b : MicroId) → In a ids → In b ids → Smaller a b → Q a b) →
      Each (λ (p : MicroId × MicroId). Q p.0 p.1) (pairs_of ids)
  unfolding pairs_of
  pairs_each [] u h = tt
  pairs_each (a ∷ bs) u h =
      each_append (λ (p : MicroId × MicroId). Q p.0 p.1) (map (pair_of a) bs) (pairs_of bs)
      (each_map (λ (b : MicroId). Smaller a b × In b bs) (λ (p : MicroId × MicroId). Q p.0 p.1) (pair_of a)
      (λ (b : MicroId) (g : Smaller a b × In b bs). pair_of_lem a b g.0 (h a b (inl refl) (inr g.1) g.0)) bs (both bs u.0))
      (pairs_each bs u.1 (λ c d i j l. h c d (inr i) (inr j) l))
    where
      both : (l : List MicroId) → Each (Smaller a) l → Each (λ (b : MicroId). Smaller a b × In b l) l
      both [] e = tt
      both (b ∷ l) e = ((e.0, inl refl), each_more (λ (c : MicroId) (g : Smaller a c × In c l). (g.0, inr g.1)) l (both l e.1))
