-- Links that stand before a key: a gain leaves them, and they stand before every key that is not smaller. No order of the list is needed. Assumes nothing.
use Rattle.std.specs.Prelude.{ℕ, ◌<◌, ◌≤◌, ◌≡◌, ◌⊎◌, Bool, true, false, ◌&&◌, ◌||◌, cond, eqb, ltb, Float}
use Rattle.std.proofs.Common.{arith, sym, ap, ◌∙◌, inl, inr, ⊎_elim, true≢false, ltb-true, ltb-false, eqb-true, lt-ltb, le-ltb, eq-eqb}
use Rattle.std.proofs.Math.Path.{refl}
use mathlib.Core.List.{List, [], ◌∷◌, ◌++◌}
use Rattle.std.proofs.lemmas.Bool.{eqb-false}
use Rattle.model.specs.declared.link.Link.{Link}
use Rattle.model.specs.DbInsert.{gains, before, same_ends, gain_in}

-- every link of the list stands before k
abbrev pub Passed : Link → List Link → Type 0
Passed k [] = Unit
Passed k (l ∷ ls) = (before l k ≡ true) × Passed k ls

-- ---- the order of the ends (a, b) and (c, d)
yes_is : (a b c d : ℕ) → (ltb a c || (eqb a c && ltb b d)) ≡ true → (a < c) ⊎ ((a ≡ c) × (b < d))
yes_is a b c d = go (ltb a c) (eqb a c) (ltb b d) refl refl refl
  where
    go : (x y z : Bool) → ltb a c ≡ x → eqb a c ≡ y → ltb b d ≡ z → (x || (y && z)) ≡ true → (a < c) ⊎ ((a ≡ c) × (b < d))
    go true y z ex ey ez e = inl (ltb-true a c ex)
    go false true true ex ey ez e = inr (eqb-true a c ey, ltb-true b d ez)
    go false true false ex ey ez e = absurd (true≢false (sym e))
    go false false z ex ey ez e = absurd (true≢false (sym e))

no_is : (a b c d : ℕ) → (ltb a c || (eqb a c && ltb b d)) ≡ false → (c < a) ⊎ ((a ≡ c) × (d ≤ b))
no_is a b c d = go (ltb a c) (eqb a c) (ltb b d) refl refl refl
  where
    go : (x y z : Bool) → ltb a c ≡ x → eqb a c ≡ y → ltb b d ≡ z → (x || (y && z)) ≡ false → (c < a) ⊎ ((a ≡ c) × (d ≤ b))
    go true y z ex ey ez e = absurd (true≢false e)
    go false true true ex ey ez e = absurd (true≢false e)
    go false true false ex ey ez e = inr (eqb-true a c ey, ltb-false b d ez)
    go false false z ex ey ez e =
        let h : c ≤ a = ltb-false a c ex in
        let g : a ≡ c → ⊥ = eqb-false a c ey in
        inl (omega arith)

is_yes : (a b c d : ℕ) → (a < c) ⊎ ((a ≡ c) × (b < d)) → (ltb a c || (eqb a c && ltb b d)) ≡ true
is_yes a b c d =
    ⊎_elim (λ h. rw (lt-ltb a c h))
    (λ q. let e : c ≤ a = omega (arith, q.0) in rw (le-ltb a c e, eq-eqb a c q.0, lt-ltb b d q.1))

-- l before k, and j not before k: l before j
before_on : (l k j : Link) → before l k ≡ true → before j k ≡ false → before l j ≡ true
before_on l k j e f =
    let a : ℕ = l.lo.0 in
    let b : ℕ = l.hi.0 in
    let c : ℕ = k.lo.0 in
    let d : ℕ = k.hi.0 in
    let x : ℕ = j.lo.0 in
    let y : ℕ = j.hi.0 in
    is_yes a b x y
    (⊎_elim
    (λ p. ⊎_elim (λ q. inl (omega (arith, p, q))) (λ q. inl (omega (arith, p, q.0))) (no_is x y c d f))
    (λ p. ⊎_elim (λ q. inl (omega (arith, p.0, q))) (λ q. inr (p.0 ∙ sym q.0, omega (arith, p.1, q.1))) (no_is x y c d f))
    (yes_is a b c d e))

-- links passed for k are passed for a key that is not before it
pub passed_on : (k j : Link) (ls : List Link) → before j k ≡ false → Passed k ls → Passed j ls
passed_on k j [] f h = tt
passed_on k j (l ∷ ls) f h = (before_on l k j h.0 f, passed_on k j ls f h.1)

-- one more link before the key
pub passed_one : (k : Link) (ls : List Link) (l : Link) → Passed k ls → before l k ≡ true → Passed k (ls ++ l ∷ [])
passed_one k [] l h e = (e, tt)
passed_one k (m ∷ ls) l h e = (h.0, passed_one k ls l h.1 e)

-- k has no link in a list whose first, if there is one, stands after it
abbrev pub Absent : Link → List Link → Type 0
Absent k [] = Unit
Absent k (l ∷ ls) = (before l k ≡ false) × (same_ends l k ≡ false)

-- ---- what a gain makes of the rest
module _ (lambda t : Float) (room : Bool) (k : Link) where
  pub gain_passed : (ls rest : List Link) → Passed k ls → gain_in lambda t room k (ls ++ rest) ≡ ls ++ gain_in lambda t room k rest
  unfolding gain_in
  gain_passed [] rest h = refl
  gain_passed (l ∷ ls) rest h = rw h.0 (ap (λ (r : List Link). l ∷ r) (gain_passed ls rest h.1))

  -- the link with the key's ends gains
  pub gain_same : (l : Link) (rest : List Link) → before l k ≡ false → same_ends l k ≡ true → gain_in lambda t room k (l ∷ rest) ≡ gains lambda t l ∷ rest
  unfolding gain_in
  gain_same l rest e f = rw (e, f)

  -- where the key has no link, a new one comes first, if there is room
  pub gain_after : (rest : List Link) → Absent k rest → gain_in lambda t room k rest ≡ cond room (gains lambda t k ∷ rest) rest
  unfolding gain_in
  gain_after [] h = refl
  gain_after (l ∷ rest) h = rw (h.0, h.1)
