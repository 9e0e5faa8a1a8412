-- The sum of two lists one after the other, and of numbers that are all small. Assumes nothing.
use Rattle.std.specs.Prelude.{ℕ, ◌+◌, ◌*◌, ◌≤◌, ◌≡◌, List, [], ◌∷◌, ◌++◌, length}
use Rattle.std.proofs.Common.{arith, mul-add, mul-one, add-one}
use Rattle.lists.specs.Each.{Each}
use Rattle.lists.specs.Total.{total}

pub total_append : (l k : List ℕ) → total (l ++ k) ≡ total l + total k
total_append [] k = omega arith
total_append (a ∷ l) k = let e : total (l ++ k) ≡ total l + total k = total_append l k in omega arith

-- numbers of at most m
pub total_most : (m : ℕ) (l : List ℕ) → Each (λ (k : ℕ). k ≤ m) l → total l ≤ m * length l
total_most m [] e = omega arith
total_most m (a ∷ l) e =
    let h : total l ≤ m * length l = total_most m l e.1 in
    let g : a ≤ m = e.0 in
    let q : m * (length l + 1) ≡ m * length l + m = simp (mul-add, mul-one) in
    rw (← add-one (length l), q) (omega arith)
