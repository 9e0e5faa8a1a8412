-- A function on places whose equal values are the chained places, and what it becomes when two of its values are made one. Assumes nothing.
use Rattle.std.specs.Prelude.{ℕ, ◌<◌, ◌≡◌, refl, ◌↔◌, ◌⊎◌, ◌≢◌}
use Rattle.std.proofs.Common.{sym, ◌∙◌, subst, inl, inr, ⊎_elim}
use Rattle.std.proofs.Math.Logic.{by_cases}
use Rattle.std.proofs.Math.Decide.{ℕ_discrete}
use Rattle.union_find.specs.Pairs.{Chain, here, fore, back}
use Rattle.union_find.specs.Laws.Chain.{chain_more, chain_trans, chain_sym}

-- R with the pair a, b
abbrev pub Also : (ℕ → ℕ → Type 0) → ℕ → ℕ → ℕ → ℕ → Type 0
Also R a b i j = R i j ⊎ ((i ≡ a) × (j ≡ b))

-- the pairs of R are below n
abbrev pub Within : ℕ → (ℕ → ℕ → Type 0) → Type 0
Within n R = (i j : ℕ) → R i j → (i < n) × (j < n)

-- below n, f has equal values at chained places and nowhere else
abbrev pub Kernel : ℕ → (ℕ → ℕ) → (ℕ → ℕ → Type 0) → Type 0
Kernel n f R = (i j : ℕ) → i < n → j < n → (f i ≡ f j) ↔ Chain R i j

-- g is f with the values at a and at b made one
pub record Merged (n : ℕ) (f g : ℕ → ℕ) (a b : ℕ) : Type 0 where
  pub kept : (i j : ℕ) → i < n → j < n → f i ≡ f j → g i ≡ g j
  pub met : g a ≡ g b
  pub only : (i j : ℕ) → i < n → j < n → g i ≡ g j → (f i ≡ f j) ⊎ (((f i ≡ f a) × (f b ≡ f j)) ⊎ ((f i ≡ f b) × (f a ≡ f j)))

-- with no pairs each place is for itself
pub kernel_start : (n : ℕ) → Kernel n (λ i. i) (λ i j. ⊥)
kernel_start n i j hi hj = ((λ e. subst (λ (k : ℕ). Chain (λ i j. ⊥) i k) e here), same)
  where
    same : {i j : ℕ} → Chain (λ i j. ⊥) i j → i ≡ j
    same here = refl
    same (fore r c) = absurd r
    same (back r c) = absurd r

-- one more pair joined
pub kernel_more : {n : ℕ} {f g : ℕ → ℕ} {R : ℕ → ℕ → Type 0} {a b : ℕ} → a < n → b < n → Within n R → Merged n f g a b → Kernel n f R → Kernel n g (Also R a b)
kernel_more {n} {f} {g} {R} {a} {b} ha hb w m k i j hi hj = (to, from)
  where
    old : {i j : ℕ} → Chain R i j → Chain (Also R a b) i j
    old c = chain_more (λ i j r. inl r) c

    across : Chain (Also R a b) a b
    across = fore (inr (refl, refl)) here

    to : g i ≡ g j → Chain (Also R a b) i j
    to e = ⊎_elim (λ s. old ((k i j hi hj).0 s))
        (⊎_elim (λ s. chain_trans (old ((k i a hi ha).0 s.0)) (chain_trans across (old ((k b j hb hj).0 s.1))))
        (λ s. chain_trans (old ((k i b hi hb).0 s.0)) (chain_trans (chain_sym across) (old ((k a j ha hj).0 s.1)))))
        (m.only i j hi hj e)

    step : (i j : ℕ) → Also R a b i j → g i ≡ g j
    step i j s = ⊎_elim (λ r. m.kept i j (w i j r).0 (w i j r).1 ((k i j (w i j r).0 (w i j r).1).1 (fore r here)))
        (λ s. subst (λ (x : ℕ). g x ≡ g j) (sym s.0) (subst (λ (y : ℕ). g a ≡ g y) (sym s.1) m.met)) s

    walk : {i j : ℕ} → Chain (Also R a b) i j → g i ≡ g j
    walk here = refl
    walk (fore {i = i} {j = j} r c) = step i j r ∙ walk c
    walk (back {i = i} {j = j} r c) = sym (step j i r) ∙ walk c

    from : Chain (Also R a b) i j → g i ≡ g j
    from c = walk c

-- g sends the places of f's value x to y, and keeps every other value; f is x and y at a and b, either way round
pub redirected : {n : ℕ} {f g : ℕ → ℕ} (x y : ℕ) {a b : ℕ} → a < n → b < n → ((i : ℕ) → i < n → f i ≡ x → g i ≡ y) → ((i : ℕ) → i < n → f i ≢ x → g i ≡ f i)
    → ((f a ≡ x) × (f b ≡ y)) ⊎ ((f a ≡ y) × (f b ≡ x)) → Merged n f g a b
redirected {n} {f} {g} x y {a} {b} ha hb over away ab = record { kept = kept'; met = met'; only = only' }
  where
    kept' : (i j : ℕ) → i < n → j < n → f i ≡ f j → g i ≡ g j
    kept' i j hi hj e =
        by_cases (ℕ_discrete (f i) x) (λ q. over i hi q ∙ sym (over j hj (sym e ∙ q)))
        (λ q. away i hi q ∙ e ∙ sym (away j hj (λ u. q (e ∙ u))))

    at_y : (i : ℕ) → i < n → f i ≡ y → g i ≡ y
    at_y i hi e = by_cases (ℕ_discrete (f i) x) (λ q. over i hi q) (λ q. away i hi q ∙ e)

    met' : g a ≡ g b
    met' = ⊎_elim (λ s. over a ha s.0 ∙ sym (at_y b hb s.1)) (λ s. at_y a ha s.0 ∙ sym (over b hb s.1)) ab

    Cases : ℕ → ℕ → Type 0
    Cases i j = (f i ≡ f j) ⊎ (((f i ≡ f a) × (f b ≡ f j)) ⊎ ((f i ≡ f b) × (f a ≡ f j)))

    only' : (i j : ℕ) → i < n → j < n → g i ≡ g j → Cases i j
    only' i j hi hj e =
        by_cases (ℕ_discrete (f i) x)
        (λ p.
        by_cases (ℕ_discrete (f j) x) (λ q. inl (p ∙ sym q))
        (λ q.
        let fj : f j ≡ y = sym (away j hj q) ∙ sym e ∙ over i hi p in
        inr (⊎_elim (λ s. inl (p ∙ sym s.0, s.1 ∙ sym fj)) (λ s. inr (p ∙ sym s.1, s.0 ∙ sym fj)) ab)))
        (λ p.
        by_cases (ℕ_discrete (f j) x)
        (λ q.
        let fi : f i ≡ y = sym (away i hi p) ∙ e ∙ over j hj q in
        inr (⊎_elim (λ s. inr (fi ∙ sym s.1, s.0 ∙ sym q)) (λ s. inl (fi ∙ sym s.0, s.1 ∙ sym q)) ab))
        (λ q. inl (sym (away i hi p) ∙ e ∙ away j hj q)))
