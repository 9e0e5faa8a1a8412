-- std's root of a double is the definition's: both cut the same root with a sticky digit, std's in smaller units. Assumes nothing.
use Rattle.std.proofs.Common.{◌≡◌, ℕ, zero, suc, ◌+◌, ◌*◌, ◌/◌, ◌%◌, ◌^◌, ◌<◌, ◌≤◌, Bool, true, false, cond, T, eqb, ℤ, pos, negsuc, sym, refl, ap, ◌∙◌, subst, lt_of_le_of_lt, lt_of_not-le, not-le_of_lt, le_of_suc-le-suc, zero-lt-suc, mul_assoc, mul_right_comm, mul-le-mul, mul-le-mul_left, mul-pos, mul-div_cancel, pow-add, pow_pos, pow_mono, arith, eqb→eq}
use Rattle.std.proofs.Math.Nat.{mul-mul-mul_comm}
use Rattle.std.proofs.Math.Numerals.{add-one}
use lib.Ieee.{Float, nan, inf, fin, binary64, up, down, size, fits, round, units, root_below, root_twice}
use lib.Ieee as Ieee
use lib.Ieee.Fits.{down_pos}
use lib.Ieee.Root.{whole_part}
use Rattle.float.specs.Laws.Units.{in_units}
use Rattle.sqrt.specs.Root.{IsRoot, sqrt_of}
use Rattle.sqrt.specs.Inside.Digits.{Rooted}
use Rattle.sqrt.specs.Laws.Floor.{Sticky}
use Rattle.sqrt.specs.Laws.Rounding.{step_of, rounds_at}
use Rattle.sqrt.specs.Laws.Nearest.{c, a, field, scale, no_tie, field_is, rounded_is}
use Rattle.sqrt.specs.Laws.Theorem.{rounds, has_root}
use Rattle.sqrt.specs.Laws.Values.{sqrt_of_value}

twice_is : (n : ℕ) → Sticky n (root_twice n)
unfolding root_twice
twice_is n = go (eqb (r * r) n) (eqb→eq (r * r) n)
  where
    r : ℕ
    r = root_below (size n) n

    is : IsRoot n r
    is = ((whole_part n).0, subst (λ (s : ℕ). n < s * s) (add-one r) (whole_part n).1)

    go : (b : Bool) → (T b → r * r ≡ n) → Sticky n (2 * r + cond b 0 1)
    go true h = record { q = r; is_root = is; low = omega arith; high = omega arith; exact = λ e. h tt }
    go false h = record { q = r; is_root = is; low = omega arith; high = omega arith; exact = λ e. absurd (no r e) }
      where
        no : (s : ℕ) → 2 * s + 1 ≡ 2 * s → ⊥
        no s e = omega arith

module _ (m k q i : ℕ) (low_k : k ≤ 2097) (d : Rooted (m * (1 + k % 2)) q i) where
  -- m * 2 ^ k smallest values, in the square of std's units
  abbrev n : ℕ
  n = m * 2 ^ k * 2 ^ 3468

  abbrev C : ℕ
  C = c m k q i low_k d + 1679

  finer : n ≡ a m k q i low_k d * (2 ^ C * 2 ^ C)
  finer =
      let x = c m k q i low_k d in
      sym (mul_assoc (m * 2 ^ k) (2 ^ 110) (2 ^ 3358))
      ∙ ap (λ (y : ℕ). y * 2 ^ 3358) (scale m k q i low_k d)
      ∙ mul_assoc (a m k q i low_k d) (2 ^ x * 2 ^ x) (2 ^ 1679 * 2 ^ 1679)
      ∙ ap (λ (y : ℕ). a m k q i low_k d * y) (mul-mul-mul_comm (2 ^ x) (2 ^ x) (2 ^ 1679) (2 ^ 1679) ∙ ap (λ (y : ℕ). y * y) (sym (pow-add 2 x 1679)))

  std_rounded : round binary64 false (root_twice n) (2 ^ 2272) ≡ units binary64 false ((q + 1) / 2) (field m k q i low_k d)
  std_rounded =
      rounds_at 2272 (c m k q i low_k d + 483) C (omega arith) (a m k q i low_k d) q (root_twice n)
      (step_of n (a m k q i low_k d) (2 ^ C) q (root_twice n) (pow_pos C) finer d.is_root (twice_is n)) (no_tie m k q i low_k d) d.low d.high
      ∙ ap (units binary64 false ((q + 1) / 2)) (field_is m k q i low_k d)

-- a double above 0 is m * 2 ^ k units of 2 ^ -1074
positive : (m : ℕ) (e : ℤ) → T (fits binary64 (fin false (suc m) e)) → Ieee.sqrt binary64 (fin false (suc m) e) ≡ sqrt_of (fin false (suc m) e)
unfolding Ieee.sqrt
positive m e f =
    let u = in_units m e f in
    let k = u.power in
    let low : k ≤ 2097 = le_of_suc-le-suc (lt_of_not-le (λ (h : 2098 ≤ k). not-le_of_lt u.room (mul-le-mul (zero-lt-suc m) (pow_mono h)))) in
    let two : 1 + k % 2 ≤ 2 = omega arith in
    let some : 0 < suc m * (1 + k % 2) = mul-pos (zero-lt-suc m) (omega arith) in
    let few : suc m * (1 + k % 2) < 2 ^ 54 = lt_of_le_of_lt (mul-le-mul_left (suc m) two) (omega (arith, u.few)) in
    let d = has_root (suc m * (1 + k % 2)) some few in
    ap (λ (x : ℕ). round binary64 false (root_twice x) (2 ^ 2272))
    (ap (λ (x : ℕ). x / down e) (sym (mul_assoc (suc m * up e) (2 ^ 1074) (2 ^ 3468)) ∙ ap (λ (x : ℕ). x * 2 ^ 3468) u.is ∙ mul_right_comm (suc m * 2 ^ k) (down e) (2 ^ 3468))
    ∙ mul-div_cancel (suc m * 2 ^ k * 2 ^ 3468) (down_pos e))
    ∙ std_rounded (suc m) k _ (rounds (suc m * (1 + k % 2)) some few) low d
    ∙ sym (sqrt_of_value (fin false (suc m) e) (suc m * 2 ^ k) (refl, u.is) (mul-pos (zero-lt-suc m) (pow_pos k))
    ∙ rounded_is (suc m) k _ (rounds (suc m * (1 + k % 2)) some few) low d)

zero_is : (s : Bool) (e : ℤ) → T (fits binary64 (fin s zero e)) → Ieee.sqrt binary64 (fin s zero e) ≡ sqrt_of (fin s zero e)
unfolding Ieee.sqrt sqrt_of fits
zero_is s (pos zero) f = refl
zero_is s (pos (suc k)) f = absurd (omega (arith, eqb→eq (2 ^ suc k * 1) 1 f))
zero_is s (negsuc k) f = absurd (omega (arith, eqb→eq (1 * 2 ^ suc k) 1 f))

-- where the format holds x
pub sqrt_same : (x : Float) → T (fits binary64 x) → Ieee.sqrt binary64 x ≡ sqrt_of x
unfolding Ieee.sqrt sqrt_of
sqrt_same nan f = refl
sqrt_same (inf true) f = refl
sqrt_same (inf false) f = refl
sqrt_same (fin s zero e) f = zero_is s e f
sqrt_same (fin true (suc m) e) f = refl
sqrt_same (fin false (suc m) e) f = positive m e f
