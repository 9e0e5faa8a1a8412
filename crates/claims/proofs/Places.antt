-- Places in a list, and the place at which a creation number stands.
use Prim.Native.Nat.{ℕ, zero, suc, ◌<◌}
use mathlib.Core.Path.{◌≡◌, refl, sym, ap, ◌∙◌, subst}
use mathlib.Core.Logic.{inl, inr, ⊎_elim}
use mathlib.Core.Bool.{Bool, true, false, true≢false}
use mathlib.Core.List.{List, [], ◌∷◌, map}
use mathlib.Core.Option.{some, none}
use native.Mathlib.Omega.{arith}
use lib.ListN.{length, get_or}
use Rattle.lists.specs.Each.{Each}
use Rattle.claims.specs.Lists.{At, In}

-- nothing is not something
pub not_none {ℓ} : {A : Type ℓ} {a : A} → none ≡ some a → ⊥
not_none e = let z : ◌≡◌ {A = ℕ} 0 1 = cc in omega arith

-- ---- At and In
module _ {A : Type 0} where
  -- one place holds one element
  pub at_one : (l : List A) (i : ℕ) (a b : A) → At l i a → At l i b → a ≡ b
  at_one l i a b h k = let e : some a ≡ some b = sym h ∙ k in cc

  pub at_below : (l : List A) (i : ℕ) (a : A) → At l i a → i < length l
  at_below [] i a h = absurd (not_none h)
  at_below (b ∷ l) zero a h = omega arith
  at_below (b ∷ l) (suc i) a h = let k : i < length l = at_below l i a h in omega arith

  pub at_there : (l : List A) (i : ℕ) → i < length l → (a : A) × At l i a
  at_there [] i h = absurd (omega arith)
  at_there (b ∷ l) zero h = (b, refl)
  at_there (b ∷ l) (suc i) h = at_there l i (omega arith)

  pub at_get_d : (l : List A) (i : ℕ) (a d : A) → At l i a → get_or l i d ≡ a
  at_get_d [] i a d h = absurd (not_none h)
  at_get_d (b ∷ l) zero a d h = let e : some b ≡ some a = h in cc
  at_get_d (b ∷ l) (suc i) a d h = at_get_d l i a d h

  pub at_in : (l : List A) (i : ℕ) (a : A) → At l i a → In a l
  at_in [] i a h = absurd (not_none h)
  at_in (b ∷ l) zero a h = inl (let e : some b ≡ some a = h in cc)
  at_in (b ∷ l) (suc i) a h = inr (at_in l i a h)

  pub in_at : (l : List A) (a : A) → In a l → (i : ℕ) × At l i a
  in_at [] a h = absurd h
  in_at (b ∷ l) a h = ⊎_elim (λ e. (0, ap some (sym e))) (λ k. let r : (i : ℕ) × At l i a = in_at l a k in (suc r.0, r.1)) h

  pub each_in : (P : A → Type 0) (l : List A) (a : A) → Each P l → In a l → P a
  each_in P [] a e h = absurd h
  each_in P (b ∷ l) a e h = ⊎_elim (λ q. subst P (sym q) e.0) (λ k. each_in P l a e.1 k) h

-- ---- a test of each
-- where the test passes, one stands that passes it
pub test_there : {A : Type 0} (f : A → Bool) (l : List A) (i : ℕ) → get_or (map f l) i false ≡ true → (a : A) × At l i a × (f a ≡ true)
test_there f [] i e = absurd (true≢false (sym e))
test_there f (a ∷ l) zero e = (a, refl, e)
test_there f (a ∷ l) (suc i) e = test_there f l i e

-- and the test of a place is that of the one there
pub there_test : {A : Type 0} (f : A → Bool) (l : List A) (i : ℕ) (a : A) → At l i a → get_or (map f l) i false ≡ f a
there_test f [] i a h = absurd (not_none h)
there_test f (b ∷ l) zero a h = ap f (let e : some b ≡ some a = h in cc)
there_test f (b ∷ l) (suc i) a h = there_test f l i a h
