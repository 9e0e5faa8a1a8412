-- `floor_root n` is the whole part of n's root, and `sticky n` twice that with a digit that says whether something was cut off. Assumes nothing.
use Rattle.std.specs.Prelude.{◌≡◌, ℕ, zero, suc, ◌+◌, ◌*◌, ◌/◌, ◌^◌, ◌<◌, ◌≤◌, Bool, true, false, cond, not, T, ◌==◌, ◌≢◌, nat_le}
use Rattle.std.proofs.Common.{le_trans, lt_of_lt_of_le, lt_of_not-le, lt_irrefl, le_of_suc-le-suc, mul_comm, mul_left_comm, mul-suc, suc-mul, mul-le-mul, pow-suc, arith, leb→le, eqb→eq}
use Rattle.std.proofs.Math.Nat.{pow-le-pow_left}
use Rattle.std.proofs.Math.Dec.{nleb→lt}
use Rattle.std.specs.Float.Ieee.{size}
use Rattle.std.specs.Float.Ieee.Digits.{size-lt}
use Rattle.sqrt.specs.Root.{IsRoot, grow, root, floor_root, sticky}

-- the square of the double
pub twice_square : (r : ℕ) → 2 * r * (2 * r) ≡ 4 * (r * r)
twice_square r = simp (mul_comm, mul_left_comm) (omega arith)

-- the square of the next number
pub next_square : (r : ℕ) → suc r * suc r ≡ r * r + 2 * r + 1
next_square r = simp (mul-suc, suc-mul) (omega arith)

-- the square of an odd number
pub odd_square : (r : ℕ) → suc (2 * r) * suc (2 * r) ≡ 4 * (r * r) + 4 * r + 1
odd_square r = omega (arith, next_square (2 * r), twice_square r)

grow_is : (n r : ℕ) → r * r ≤ n → n < suc (suc r) * suc (suc r) → IsRoot n (grow n r)
grow_is n r lo hi = go (nat_le (suc r * suc r) n) (leb→le (suc r * suc r) n) (nleb→lt (suc r * suc r) n)
  where
    go : (b : Bool) → (T b → suc r * suc r ≤ n) → (T (not b) → n < suc r * suc r) → IsRoot n (cond b (suc r) r)
    go true h k = (h tt, hi)
    go false h k = (lo, k tt)

root_is : (d n : ℕ) → n < 4 ^ d → IsRoot n (root d n)
unfolding root
root_is zero n h = (omega arith, h)
root_is (suc d) n h =
    let r = root d (n / 4) in
    let ih : IsRoot (n / 4) r = root_is d (n / 4) (omega (arith, pow-suc 4 d)) in
    grow_is n (2 * r)
    (omega (arith, twice_square r, ih.0))
    (omega (arith, next_square (suc (2 * r)), next_square (2 * r), twice_square r, next_square r, ih.1))

-- every number has a root, cut
pub floor_root_lem : (n : ℕ) → IsRoot n (floor_root n)
unfolding floor_root
floor_root_lem n = root_is (size n) n (lt_of_lt_of_le (size-lt n) (pow-le-pow_left (omega arith) (size n)))

-- where the square of a is at most a number that the square of b is above, a is below b
pub below_of_squares : (n a b : ℕ) → a * a ≤ n → n < b * b → a < b
below_of_squares n a b lo hi = lt_of_not-le (λ (g : b ≤ a). lt_irrefl n (lt_of_lt_of_le hi (le_trans (mul-le-mul g g) lo)))

-- the root lies where the number lies between squares
pub root_within : (n a b q : ℕ) → a * a ≤ n → n < b * b → IsRoot n q → (a ≤ q) × (q < b)
root_within n a b q lo hi is = (le_of_suc-le-suc (below_of_squares n a (suc q) lo is.1), below_of_squares n q b is.0 hi)

-- `sticky n` is twice the whole part of n's root, and is even only where n is a square
pub record Sticky (n t : ℕ) : Type 0 where
  pub q : ℕ
  pub is_root : IsRoot n q
  pub low : 2 * q ≤ t
  pub high : t ≤ 2 * q + 1
  pub exact : t ≡ 2 * q → q * q ≡ n

-- so it is of every number
pub sticky_is : (n : ℕ) → Sticky n (sticky n)
unfolding sticky
sticky_is n = go (floor_root n * floor_root n == n) (eqb→eq (floor_root n * floor_root n) n)
  where
    go : (b : Bool) → (T b → floor_root n * floor_root n ≡ n) → Sticky n (2 * floor_root n + cond b 0 1)
    go true h = record { q = floor_root n; is_root = floor_root_lem n; low = omega arith; high = omega arith; exact = λ e. h tt }
    go false h = record { q = floor_root n; is_root = floor_root_lem n; low = omega arith; high = omega arith; exact = λ e. absurd (no (floor_root n) e) }
      where
        no : (a : ℕ) → 2 * a + 1 ≢ 2 * a
        no a e = omega arith
