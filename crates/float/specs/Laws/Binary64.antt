-- What the bits of a double tell of its value: the exponent by the digits of its whole part, the significand by the value's leading digits. Assumes nothing.
use Rattle.std.specs.Prelude.{◌≡◌, ℕ, zero, suc, ◌+◌, ◌-◌, ◌*◌, ◌/◌, ◌%◌, ◌^◌, ◌<◌, ◌≤◌, Bool, false, ◌&&◌, T, ltb, leb, ℤ, ◌==◌, nat_eq, nat_le, nat_lt}
use Rattle.std.proofs.Math.Path.{refl}
use Rattle.std.proofs.Common.{sym, ap, ◌∙◌, le_trans, le_of_eq, lt_of_lt_of_le, lt_of_le_of_lt, zero-mul, mul-pos, lt_of_not-le, not-le_of_lt, mul_right_comm, mul-le-mul_right, mul-lt-mul_of_pos_right, le-div_iff_mul-le, div-lt_iff_lt-mul, arith, ltb→lt, pow-add, pow_pos, pow_mono}
use Rattle.std.specs.Float.{fin, binary64}
use Rattle.std.specs.Float.Ieee.{up, down, size, fits, to_bits}
use Rattle.std.specs.Float.Ieee.Digits.{size-lt, size-le, size_reaches}
use Rattle.std.specs.Float.Ieee.Fits.{down_pos, kept-lt, and_l, and_r}
use Rattle.float.specs.Binary64.{bias, digits, biased, significand}

-- ---- how many digits
size_gt : (n j : ℕ) → 2 ^ j ≤ n → j < size n
size_gt n j h = lt_of_not-le (λ (g : size n ≤ j). not-le_of_lt (lt_of_lt_of_le (size-lt n) (pow_mono g)) h)

join : (z t x : ℕ) → 0 < z → x ≤ z + t → z - 1 + t < x → x ≡ z + t
join z t x Z a b = omega arith

pred_lt : (z : ℕ) → 0 < z → z - 1 < z
pred_lt z h = omega arith

-- 2 ^ t times a fraction of 1 at least has t more digits in its whole part
size_scale : (n c t : ℕ) → 0 < c → 0 < size (n / c) → size (n * 2 ^ t / c) ≡ size (n / c) + t
size_scale n c t C Z =
    let z = size (n / c) in
    let lo : 2 ^ (z - 1) * c ≤ n = (le-div_iff_mul-le C).0 (size_reaches (n / c) (z - 1) (pred_lt z Z)) in
    let hi : n < 2 ^ z * c = (div-lt_iff_lt-mul C).0 (size-lt (n / c)) in
    let lo' : 2 ^ (z - 1 + t) * c ≤ n * 2 ^ t =
    le_trans (le_of_eq (ap (λ (x : ℕ). x * c) (pow-add 2 (z - 1) t) ∙ mul_right_comm (2 ^ (z - 1)) (2 ^ t) c)) (mul-le-mul_right (2 ^ t) lo) in
    let hi' : n * 2 ^ t < 2 ^ (z + t) * c =
    lt_of_lt_of_le (mul-lt-mul_of_pos_right hi (pow_pos t)) (le_of_eq (mul_right_comm (2 ^ z) c (2 ^ t) ∙ ap (λ (x : ℕ). x * c) (sym (pow-add 2 z t)))) in
    join z t (size (n * 2 ^ t / c)) Z (size-le (n * 2 ^ t / c) (z + t) ((div-lt_iff_lt-mul C).1 hi'))
    (size_gt (n * 2 ^ t / c) (z - 1 + t) ((le-div_iff_mul-le C).1 lo'))

module _ (m : ℕ) (e : ℤ) where
  -- the value in units of the smallest double
  abbrev pub units : ℕ
  units = m * up e * 2 ^ 1074 / down e

  -- how many of its digits the bits drop
  abbrev pub dropped : ℕ
  dropped = size units - 53

  -- that number stands above the digits that are kept
  pub bits_opened : to_bits binary64 (fin false m e) ≡ 0 + dropped * 2 ^ digits + units / 2 ^ dropped
  unfolding to_bits
  bits_opened = refl

  -- at most 53 are kept
  pub leading_few : units / 2 ^ dropped < 2 ^ 53
  leading_few = kept-lt 53 units

  -- ---- a double of 1 or more
  module _ (h : down e ≤ m * up e) where
    -- the whole part has a digit
    pub some : 0 < size (m * up e / down e)
    some = size_gt (m * up e / down e) 0 ((le-div_iff_mul-le (down_pos e)).1 (omega arith))

    -- it has 1,074 digits less than the value has in units
    pub units_size : size units ≡ size (m * up e / down e) + 1074
    units_size = size_scale (m * up e) (down e) 1074 (down_pos e) some

    -- here no fewer than 53 are kept
    leading_all : 2 ^ digits ≤ units / 2 ^ dropped
    leading_all =
        (le-div_iff_mul-le (pow_pos dropped)).1
        (le_trans (le_of_eq (sym (pow-add 2 digits dropped))) (size_reaches units (digits + dropped) (omega (arith, units_size, some))))

    -- the exponent is one less than the whole part's digits
    pub biased_is : biased (fin false m e) + 1 ≡ size (m * up e / down e) + bias
    biased_is = omega (arith, bits_opened, leading_few, leading_all, units_size, some)

    -- the significand is the digits that are kept
    pub significand_is : significand (fin false m e) ≡ units / 2 ^ dropped
    significand_is = omega (arith, bits_opened, leading_few, leading_all)

-- ---- what a double of the format is
-- it has at most 53 digits
pub few : (s : Bool) (m : ℕ) (e : ℤ) → T (fits binary64 (fin s m e)) → m < 2 ^ 53
unfolding fits
few s zero e f = omega arith
few s (suc m) e f =
    let a = nat_eq (suc m % 2) 1 in
    let b = ltb (suc m) (2 ^ 53) in
    let c = leb (down e) (2 ^ 1074) in
    ltb→lt (suc m) (2 ^ 53) (and_r a b (and_l (a && b) c (and_l (a && b && c) (nat_lt (suc m * up e) (2 ^ 1024 * down e)) f)))

-- it does not reach 2^1024
pub under : (m : ℕ) (e : ℤ) → T (fits binary64 (fin false m e)) → m * up e < 2 ^ 1024 * down e
unfolding fits
under zero e t = lt_of_le_of_lt (le_of_eq (zero-mul (up e))) (mul-pos (pow_pos 1024) (down_pos e))
under (suc m) e t =
    ltb→lt (suc m * up e) (2 ^ 1024 * down e)
    (and_r (suc m % 2 == 1 && nat_lt (suc m) (2 ^ 53) && nat_le (down e) (2 ^ 1074)) (nat_lt (suc m * up e) (2 ^ 1024 * down e)) t)
