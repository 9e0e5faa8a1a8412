-- Sums of a function over the numbers below n. Assumes nothing.
use Rattle.std.specs.Prelude.{ℕ, zero, suc, ◌+◌, ◌<◌, ◌≤◌, ◌≡◌, refl, ◌≢◌, Bool, cond, eqb}
use Rattle.std.proofs.Common.{sym, ◌∙◌, ap, ap₂, arith, eq-eqb, ne_eqb}
use Rattle.std.proofs.Math.Logic.{by_cases}
use Rattle.std.proofs.Math.Decide.{ℕ_discrete}
use Rattle.union_find.specs.Inside.Sum.{sum}

-- equal values have equal sums
pub sum_agree : (n : ℕ) (f g : ℕ → ℕ) → ((i : ℕ) → i < n → f i ≡ g i) → sum n f ≡ sum n g
sum_agree zero f g h = refl
sum_agree (suc n) f g h = ap₂ ◌+◌ (sum_agree n f g (λ i hi. h i (omega arith))) (h n (omega arith))

-- a sum has each of its values
pub sum_has : (n : ℕ) (f : ℕ → ℕ) (a : ℕ) → a < n → f a ≤ sum n f
sum_has zero f a h = omega arith
sum_has (suc n) f a h =
    by_cases (ℕ_discrete a n) (λ e. let q : f a ≡ f n = ap f e in omega arith)
    (λ e. let q : f a ≤ sum n f = sum_has n f a (omega arith) in omega arith)

-- f and g differ at a alone
pub sum_one : (n : ℕ) (f g : ℕ → ℕ) (a : ℕ) → a < n → ((i : ℕ) → i < n → i ≢ a → f i ≡ g i) → sum n f + g a ≡ sum n g + f a
sum_one zero f g a h d = omega arith
sum_one (suc n) f g a h d =
    by_cases (ℕ_discrete a n)
    (λ e.
    let q : f a ≡ f n = ap f e in
    let q' : g a ≡ g n = ap g e in
    let s : sum n f ≡ sum n g = sum_agree n f g (λ i hi. d i (omega arith) (λ (u : i ≡ a). omega arith)) in
    omega arith)
    (λ e.
    let q : sum n f + g a ≡ sum n g + f a = sum_one n f g a (omega arith) (λ i hi. d i (omega arith)) in
    let q' : f n ≡ g n = d n (omega arith) (λ (u : n ≡ a). e (sym u)) in
    omega arith)

-- f and g differ at a and b alone
pub sum_two :
    (n : ℕ) (f g : ℕ → ℕ) (a b : ℕ) →
    a < n →
    b < n →
    a ≢ b →
    ((i : ℕ) → i < n → i ≢ a → i ≢ b → f i ≡ g i) →
    sum n f + (g a + g b) ≡ sum n g + (f a + f b)
sum_two n f g a b ha hb ab d =
    let q : sum n f + h a ≡ sum n h + f a = sum_one n f h a ha (λ i hi ia. sym (h_other i ia)) in
    let q' : sum n h + g b ≡ sum n g + h b = sum_one n h g b hb between in
    let ea : h a ≡ g a = h_same in
    let eb : h b ≡ f b = h_other b (λ (u : b ≡ a). ab (sym u)) in
    omega arith
  where
    h : ℕ → ℕ
    h i = cond (eqb i a) (g a) (f i)

    h_same : h a ≡ g a
    h_same = ap (λ (t : Bool). cond t (g a) (f a)) (eq-eqb a a refl)

    h_other : (i : ℕ) → i ≢ a → h i ≡ f i
    h_other i ia = ap (λ (t : Bool). cond t (g a) (f i)) (ne_eqb i a ia)

    between : (i : ℕ) → i < n → i ≢ b → h i ≡ g i
    between i hi ib = go (ℕ_discrete i a)
      where
        go : Dec (i ≡ a) → h i ≡ g i
        go (yes e) = ap h e ∙ h_same ∙ ap g (sym e)
        go (no e) = h_other i e ∙ d i hi e ib
