-- A counting loop over the first n elements of a list.
-- Each step opens one element (`rest_step`), and at n nothing is left (`rest_end`). Assumes nothing.
use Rattle.std.specs.Prelude.{ℕ, zero, suc, ◌+◌, ◌-◌, ◌≤◌, ◌<◌, min, ◌≡◌, List, [], ◌∷◌, take, drop, get_or, set}
use Rattle.std.proofs.Math.Nat.{zero-min, min-zero, suc-min-suc}
use Rattle.std.proofs.Math.Path.{refl}
use Rattle.std.proofs.Common.{sym, ap, ◌∙◌, add-one}
use native.Mathlib.Omega.{arith}
use Rattle.std.proofs.Math.ListN.{length, length-take, drop_of_length-le}
use Rattle.lists.specs.Rest.{rest}
use Rattle.std.proofs.Math.Seq.{drop-cons, get_or-take, length-take-le, drop-set-lt}
use Rattle.std.proofs.lemmas.List.{drop-drop}

module _ {ℓ} {A : Type ℓ} where
  pub rest_start : (n : ℕ) (l : List A) → rest n 0 l ≡ take n l
  unfolding rest
  rest_start n l = refl

  -- what is left at i begins with the element there
  pub rest_step : (n i : ℕ) (l : List A) (d : A) → i < n → n ≤ length l → rest n i l ≡ get_or l i d ∷ rest n (i + 1) l
  unfolding rest
  rest_step n i l d h k =
      let b : length (take n l) ≡ n = length-take-le n l k in
      let q : i < length (take n l) = omega arith in
      rw (add-one, drop-cons (take n l) i d, get_or-take n l i d)

  -- past the end nothing is left
  pub rest_end : (n i : ℕ) (l : List A) → n ≤ i → rest n i l ≡ []
  unfolding rest
  rest_end n i l h =
      let q : length (take n l) ≤ i = omega (arith, length-take n l) in drop_of_length-le (take n l) q

  -- a store in the list that is cut, and a cut at a number that was cut to the list's length
  pub take_set : (n : ℕ) (l : List A) (i : ℕ) (a : A) → take n (set l i a) ≡ set (take n l) i a
  take_set zero l i a = refl
  take_set (suc n) [] i a = refl
  take_set (suc n) (x ∷ xs) zero a = refl
  take_set (suc n) (x ∷ xs) (suc i) a = ap (λ (r : List A). x ∷ r) (take_set n xs i a)

  -- a cut at the list's own length cuts nothing
  pub take_min : (n m : ℕ) (l : List A) → length l ≡ m → take (min n m) l ≡ take n l
  take_min zero m l h = rw zero-min
  take_min (suc n) zero [] h = rw min-zero
  take_min (suc n) zero (x ∷ xs) h = absurd (omega arith)
  take_min (suc n) (suc m) [] h = absurd (omega arith)
  take_min (suc n) (suc m) (x ∷ xs) h =
      let k : length xs ≡ m = omega arith in
      rw suc-min-suc (ap (λ (r : List A). x ∷ r) (take_min n m xs k))

  -- a store before i leaves what is left alone
  pub rest_set : (n i : ℕ) (l : List A) (j : ℕ) (a : A) → j < i → rest n i (set l j a) ≡ rest n i l
  unfolding rest
  rest_set n i l j a h = rw (take_set n l j a, drop-set-lt i (take n l) j a)

  -- lists that are the same from n on are so from m on
  pub drop_on : (n m : ℕ) (l k : List A) → n ≤ m → drop n l ≡ drop n k → drop m l ≡ drop m k
  drop_on n m l k h e =
      let q : n + (m - n) ≡ m = omega arith in
      sym (drop-drop (m - n) n l ∙ ap (λ (i : ℕ). drop i l) q) ∙ ap (drop (m - n)) e ∙ drop-drop (m - n) n k ∙ ap (λ (i : ℕ). drop i k) q

  -- ---- a loop up to the count, cut to the m places: where it starts, and where it ends
  pub cut_take : (n c m : ℕ) (l : List A) → n ≡ min c m → length l ≡ m → take n l ≡ take c l
  cut_take n c m l e h = rw e (take_min c m l h)

  -- at 0 all of the first c are left
  pub cut_start : (n c m : ℕ) (l : List A) → n ≡ min c m → length l ≡ m → rest n 0 l ≡ take c l
  cut_start n c m l e h = rest_start n l ∙ cut_take n c m l e h

-- an element, where a law asks for one and does not look at it
pub any_of {ℓ} : {A : Type ℓ} (l : List A) → 0 < length l → A
any_of [] h = absurd (omega arith)
any_of (x ∷ xs) h = x
