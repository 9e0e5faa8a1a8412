-- The biased exponent of a double of 1 or more is the bias and one less than the binary digits of its whole part. Assumes nothing.
use Rattle.std.proofs.Common.{◌≡◌, ℕ, ◌+◌, ◌*◌, ◌/◌, ◌<◌, ◌≤◌, true, false, not, T, eqb, ℤ, div-lt_iff_lt-mul, arith, eqb→eq}
use lib.Ieee.{Float, nan, inf, fin, binary64, up, down, size, le, fits, is_nan, of_bits}
use lib.Ieee.Digits.{size-le}
use lib.Ieee.Fits.{down_pos, and_r}
use Rattle.float.specs.Rounded.{one}
use Rattle.float.specs.Order.{is_finite}
use Rattle.float.specs.Binary64.{bias, biased}
use Rattle.float.specs.Ln.{exponent_of}
use Rattle.float.specs.Laws.Opened.{le_or}
use Rattle.float.specs.Laws.Binary64.{some, biased_is, under}

-- ---- v is 1 at least
pub record Scaled (v : Float) : Type 0 where
  pub no_nan : T (not (is_nan v))
  pub stored : biased v ≡ exponent_of v + bias
  pub small : exponent_of v ≤ 1023

one_le : (m : ℕ) (e : ℤ) → T (le one (fin false m e)) → down e ≤ m * up e
unfolding le of_bits
one_le m e t = let h : 1 * down e ≤ m * up e * 1 = le_or (1 * down e) (m * up e * 1) t in omega arith

minus_below : (m : ℕ) (e : ℤ) → T (le one (fin true m e)) → ⊥
unfolding le of_bits
minus_below m e t = let z : 1 * down e ≡ 0 = eqb→eq (1 * down e) 0 (and_r (eqb (1 * down e) (m * up e * 1)) (eqb (1 * down e) 0) t) in omega (arith, down_pos e)

-- so it is of every finite double from 1 on
pub scaled : (v : Float) → T (fits binary64 v) → T (le one v) → T (is_finite v) → Scaled v
unfolding exponent_of is_nan
scaled nan f l i = absurd i
scaled (inf s) f l i = absurd i
scaled (fin true m e) f l i = absurd (minus_below m e l)
scaled (fin false m e) f l i =
    let w = m * up e / down e in
    let b : biased (fin false m e) + 1 ≡ size w + bias = biased_is m e (one_le m e l) in
    let p : 0 < size w = some m e (one_le m e l) in
    let u : size w ≤ 1024 = size-le w 1024 ((div-lt_iff_lt-mul (down_pos e)).1 (under m e f)) in
    record { no_nan = tt; stored = omega arith; small = omega arith }
