-- A double cut towards zero, by the cases of its exponent and in plain arithmetic. Assumes nothing.
use Rattle.std.specs.Prelude.{◌≡◌, ℕ, zero, suc, ◌+◌, ◌-◌, ◌*◌, ◌/◌, ◌^◌, ◌<◌, ◌≤◌, true, false, T, ℤ, pos, negsuc, refl, Float}
use Rattle.std.proofs.Common.{sym, ap, ◌∙◌, subst, le_trans, le_of_eq, lt_of_lt_of_le, lt_of_le_of_lt, lt_of_not-le, not-le_of_lt, mul-one, mul_comm, mul_assoc, mul_right_comm, mul-le-mul_right, mul-lt-mul_of_pos_right, le_of_mul-le-mul_right, lt_of_mul-lt-mul_right, le-div_iff_mul-le, div-lt_iff_lt-mul, div-le_self, div-one, le_refl, arith, true≢false, ltb→lt, lit<, pow-add, pow_pos, pow_mono}
use Rattle.std.proofs.Math.Nat.{div-div-eq-div-mul, mul-div-mul_right, div-eq_of_lt}
use Rattle.std.specs.Float.{nan, inf, fin, binary64}
use Rattle.std.specs.Float.Ieee.{up, down, fits, round, neg, lt, of_int, to_bits, of_bits}
use Rattle.std.specs.Float.Ieee.Digits.{size-le, size_reaches}
use Rattle.std.specs.Float.Ieee.Fits.{down_pos, round-fits}
use Rattle.std.specs.Float.Ieee.Exact.{HasValue, round_exact}
use Rattle.std.specs.Float.Ieee.Back.{whole_unique}
use Rattle.float.specs.Rounded.{nought, whole, Is}
use Rattle.float.specs.Binary64.{bias, digits, biased, significand}
use Rattle.float.specs.Cut.{cut_of, ByExponent, TowardsZero}
use Rattle.float.specs.Laws.Whole.{whole_is}
use Rattle.float.specs.Laws.Binary64.{units, dropped, bits_opened, leading_few, some, units_size, biased_is, significand_is, few, under}

-- ---- what the bits of m × 2^e tell of its whole part. m being odd, e is not IEEE 754's exponent; that is x
module _ (m : ℕ) (e : ℤ) where
  -- what is below 1 has an exponent below 0
  under_one : m * up e < down e → biased (fin false m e) < bias
  under_one h =
      let u : units m e < 2 ^ 1074 = (div-lt_iff_lt-mul (down_pos e)).1
      (lt_of_lt_of_le (mul-lt-mul_of_pos_right h (pow_pos 1074)) (le_of_eq (mul_comm (down e) (2 ^ 1074)))) in
      omega (arith, bits_opened m e, leading_few m e, size-le (units m e) 1074 u)

  -- so what has one of 0 or more is 1 at least
  one_at_least : bias ≤ biased (fin false m e) → down e ≤ m * up e
  one_at_least h =
      let g : down e < suc (m * up e) = lt_of_not-le (λ (l : suc (m * up e) ≤ down e). not-le_of_lt (under_one (omega arith)) h) in
      omega arith

  -- below 0: nothing is whole
  no_whole : biased (fin false m e) < bias → m * up e / down e ≡ 0
  no_whole h = div-eq_of_lt (lt_of_not-le (λ (g : down e ≤ m * up e). omega (arith, biased_is m e g, some m e g, h)))

  -- 0 to 51: the significand, moved down until the point is at its end, is the whole part
  moved :
      (x : ℕ) →
      biased (fin false m e) ≡ x + bias →
      x < digits →
      significand (fin false m e) / 2 ^ (digits - x) ≡ m * up e / down e
  moved x b l =
      let g : down e ≤ m * up e = one_at_least (omega (arith, b)) in
      let t : dropped m e + (digits - x) ≡ 1074 = omega (arith, b, l, units_size m e g, biased_is m e g) in
      rw (significand_is m e g)
      (div-div-eq-div-mul (units m e) (2 ^ dropped m e) (2 ^ (digits - x))
      ∙ ap (λ (n : ℕ). units m e / n) (sym (pow-add 2 (dropped m e) (digits - x)) ∙ ap (λ (n : ℕ). 2 ^ n) t)
      ∙ div-div-eq-div-mul (m * up e * 2 ^ 1074) (down e) (2 ^ 1074)
      ∙ mul-div-mul_right (m * up e) (down e) (pow_pos 1074))

  -- 52 and above: the size is 2^52 at least
  far : (x : ℕ) → biased (fin false m e) ≡ x + bias → digits ≤ x → 2 ^ digits * down e ≤ m * up e
  far x b l =
      let g : down e ≤ m * up e = one_at_least (omega (arith, b)) in
      (le-div_iff_mul-le (down_pos e)).0 (size_reaches (m * up e / down e) digits (omega (arith, b, l, biased_is m e g)))

-- ---- a double's whole part is a double
pub whole_part : (m : ℕ) (e : ℤ) → T (fits binary64 (fin false m e)) → Is (whole (m * up e / down e)) (m * up e / down e)
unfolding of_int
whole_part m (negsuc j) f = whole_is (m * 1 / 2 ^ suc j) (le_trans (div-le_self (m * 1) (2 ^ suc j)) (omega (arith, few false m (negsuc j) f)))
whole_part m (pos j) f =
    let u : m * 2 ^ (1074 + j) ≡ m * 2 ^ j * 2 ^ 1074 =
    ap (λ (x : ℕ). m * x) (pow-add 2 1074 j ∙ mul_comm (2 ^ 1074) (2 ^ j)) ∙ sym (mul_assoc m (2 ^ j) (2 ^ 1074)) in
    subst (λ (n : ℕ). Is (whole n) n) (sym (div-one (m * 2 ^ j)))
    (round_exact binary64 false (m * 2 ^ j) 1 m (1074 + j) (lit< tt) (few false m (pos j) f)
    (subst (λ (x : ℕ). x < 2 ^ 2098) (sym u) (mul-lt-mul_of_pos_right (under m (pos j) f) (pow_pos 1074))) (sym u ∙ sym (mul-one (m * 2 ^ (1074 + j)))))

-- from 2^52 on it is the double itself
whole_far : (m : ℕ) (e : ℤ) → T (fits binary64 (fin false m e)) → 2 ^ digits * down e ≤ m * up e → whole (m * up e / down e) ≡ fin false m e
unfolding of_int
whole_far m (negsuc j) f h = absurd (
    let l : m < 2 ^ 53 = few false m (negsuc j) f in
    let o : 1 ≤ suc j = omega arith in
    let g : 2 ^ 1 ≤ 2 ^ suc j = pow_mono o in
    omega arith)
whole_far m (pos j) f h =
    whole_unique binary64 (whole (m * 2 ^ j / 1)) (fin false m (pos j)) false (m * 2 ^ j / 1) (round-fits binary64 false (m * 2 ^ j / 1) 1) f
    (whole_part m (pos j) f) (refl, omega (arith, div-one (m * 2 ^ j)))

-- ---- the two laws
cut_minus : (m : ℕ) (e : ℤ) → cut_of (fin true m e) ≡ neg (whole (m * up e / down e))
unfolding cut_of
cut_minus m e = refl

minus : (m : ℕ) (e : ℤ) → neg (fin false m e) ≡ fin true m e
unfolding neg
minus m e = refl

pub fits_plus : (m : ℕ) (e : ℤ) → T (fits binary64 (fin true m e)) → T (fits binary64 (fin false m e))
unfolding fits
fits_plus zero e t = t
fits_plus (suc m) e t = t

whole_0 : neg (whole 0) ≡ neg nought
unfolding of_int of_bits round
whole_0 = refl

-- "Each is proved to give y cut towards zero, for each y below 0": subnormals, whole numbers, −0.5 and −infinity among them
pub by_exponent : (y : Float) → T (fits binary64 y) → T (lt y nought) → ByExponent y
unfolding lt neg to_bits cut_of of_bits
by_exponent nan f t = absurd t
by_exponent (inf false) f t = absurd t
by_exponent (inf true) f t = record { below_0 = λ h. absurd (omega arith); from_0_to_51 = λ e b l. absurd (omega arith); from_52 = λ e b l. refl }
by_exponent (fin false m e) f t = absurd (let h : m * up e * 1 < 0 * down e = ltb→lt (m * up e * 1) (0 * down e) t in omega arith)
by_exponent (fin true m e) f t = record {
  below_0 = λ h. cut_minus m e ∙ ap (λ (n : ℕ). neg (whole n)) (no_whole m e h) ∙ whole_0;
  from_0_to_51 = λ x b l. cut_minus m e ∙ ap (λ (n : ℕ). neg (whole n)) (sym (moved m e x b l));
  from_52 = λ x b l. cut_minus m e ∙ ap neg (whole_far m e (fits_plus m e f) (far m e x b l)) ∙ minus m e;
}

minus_is : (w : Float) (n : ℕ) → Is w n → HasValue (neg w) true n 1
unfolding neg
minus_is nan n p = absurd p
minus_is (inf s) n p = absurd p
minus_is (fin true m e) n p = absurd (true≢false p.0)
minus_is (fin false m e) n p = (refl, p.1)

-- in plain arithmetic, for each finite y with the sign minus
pub cut_towards_zero :
    (y : Float) (a c : ℕ) →
    0 < c →
    T (fits binary64 y) →
    HasValue y true a c →
    TowardsZero y a c
unfolding cut_of
cut_towards_zero nan a c C f v = absurd v
cut_towards_zero (inf s) a c C f v = absurd v
cut_towards_zero (fin false m e) a c C f v = absurd (true≢false (sym v.0))
cut_towards_zero (fin true m e) a c C f v =
    let n = m * up e / down e in
    let lo : n * down e ≤ m * up e = (le-div_iff_mul-le (down_pos e)).0 (le_refl n) in
    let hi : m * up e < (n + 1) * down e = (div-lt_iff_lt-mul (down_pos e)).0 (omega arith) in
    record {
      n = n;
      is = minus_is (whole n) n (whole_part m e (fits_plus m e f));
      at_least = le_of_mul-le-mul_right (le_trans (le_of_eq (mul_right_comm n c (down e))) (le_trans (mul-le-mul_right c lo) (le_of_eq v.1))) (down_pos e);
      below_next = lt_of_mul-lt-mul_right (down e)
          (lt_of_lt_of_le (lt_of_le_of_lt (le_of_eq (sym v.1)) (mul-lt-mul_of_pos_right hi C)) (le_of_eq (mul_right_comm (n + 1) (down e) c)));
    }
