-- How long a list is after a retain and without one of its elements. Assumes nothing.
use Prim.Native.Nat.{ℕ, zero, suc, ◌+◌, ◌<◌, ◌≤◌}
use Rattle.std.specs.Prelude.{◌≡◌, Bool, true, false, cond}
use mathlib.Core.List.{List, [], ◌∷◌}
use native.Mathlib.Omega.{arith}
use Rattle.std.proofs.Math.ListN.{length}
use Rattle.lists.specs.Retain.{retain, without}

module _ {ℓ} {A : Type ℓ} where
  one_more : (t : Bool) (x : A) (xs : List A) (n : ℕ) → length xs ≤ n → length (cond t (x ∷ xs) xs) ≤ suc n
  one_more true x xs n h = omega arith
  one_more false x xs n h = omega arith

  -- no more are kept than there are
  pub retain_length : (p : A → Bool) (l : List A) → length (retain p l) ≤ length l
  unfolding retain
  retain_length p [] = omega arith
  retain_length p (x ∷ xs) = one_more (p x) x (retain p xs) (length xs) (retain_length p xs)

  -- one fewer
  pub without_length : (i : ℕ) (l : List A) → i < length l → length (without i l) + 1 ≡ length l
  unfolding without
  without_length i [] h = absurd (omega arith)
  without_length zero (x ∷ xs) h = omega arith
  without_length (suc i) (x ∷ xs) h = let k : length (without i xs) + 1 ≡ length xs = without_length i xs (omega arith) in omega arith
