-- `sqrt_of` in plain arithmetic:
-- for x = m * 2 ^ (k - 1074), a positive number of binary64, its result is the number of 53 binary digits that is nearest to x's root. Assumes nothing.
use Rattle.std.specs.Prelude.{◌≡◌, ℕ, suc, ◌+◌, ◌-◌, ◌*◌, ◌/◌, ◌%◌, ◌^◌, ◌<◌, ◌≤◌, false, T, ℤ, ◌≢◌, refl, Float}
use Rattle.std.proofs.Common.{sym, ap, ◌∙◌, subst, le_trans, le_of_eq, lt_of_lt_of_le, lt_of_le_of_lt, lt_of_not-le, not-le_of_lt, le_of_suc-le-suc, mul_left_comm, mul_assoc, mul-suc, suc-mul, mul-pos, mul-le-mul, mul-le-mul_right, mul-lt-mul_of_pos_right, zero-lt-suc, eq-or-lt_of_le, inl, inr, arith, pow-add, pow_pos, pow_mono, shl_lt}
use Rattle.std.proofs.Math.Arith.{lt_of_le-ne}
use Rattle.std.specs.Float.{fin, binary64}
use Rattle.std.specs.Float.Ieee.{fits, size}
use Rattle.std.specs.Float.Ieee.Digits.{size-lt, size-le, size_reaches}
use Rattle.std.specs.Float.Ieee.Exact.{HasValue}
use Rattle.float.specs.Laws.Units.{in_units}
use Rattle.sqrt.specs.Root.{floor_root, sqrt_of}
use Rattle.sqrt.specs.Laws.Floor.{root_within, floor_root_lem}
use Rattle.sqrt.specs.Inside.Digits.{Rooted}
use Rattle.sqrt.specs.Laws.Nearest.{pow_four, scale, no_tie, rounded_is, rounded_value, field_is, c, a, field}
use Rattle.sqrt.specs.Laws.Values.{sqrt_of_value}

-- y is r * 2 ^ (g - 1074), and the root of n * 2 ^ -1074 lies between (r - 1/2) * 2 ^ (g - 1074) and (r + 1/2) * 2 ^ (g - 1074), and is neither.
-- g is the right place: the root is from 2 ^ 52 * 2 ^ (g - 1074) up and below twice that. So multiples of 2 ^ (g - 1074) are what has 53 digits there.
-- There are no real numbers here, so each side is doubled and squared: twice the root, in units of 2 ^ -1074, has the square 4 * (n * 2 ^ 1074).
pub record NearestRoot (n : ℕ) (y : Float) : Type 0 where
  pub r : ℕ
  pub g : ℕ
  pub value : HasValue y false (r * 2 ^ g) (2 ^ 1074)
  pub place_low : 2 ^ 106 * 4 ^ g ≤ 4 * (n * 2 ^ 1074)
  pub place_high : 4 * (n * 2 ^ 1074) < 2 ^ 108 * 4 ^ g
  pub above : (2 * r - 1) * (2 * r - 1) * 4 ^ g < 4 * (n * 2 ^ 1074)
  pub below : 4 * (n * 2 ^ 1074) < (2 * r + 1) * (2 * r + 1) * 4 ^ g

-- ---- every m below 2 ^ 54 has a root of 54 digits

module _ (m : ℕ) (some : 0 < m) (few : m < 2 ^ 54) where
  -- how many rounds give m a root of 54 digits
  abbrev pub rounds : ℕ
  rounds = 54 + (54 - size m) / 2

  one_digit : 1 ≤ size m
  one_digit = lt_of_not-le (λ (g : size m ≤ 0). no (lt_of_lt_of_le (size-lt m) (pow_mono g)))
    where
      no : m < 1 → ⊥
      no h = omega arith

  in_place : (2 ^ 53 * 2 ^ 53 ≤ m * 4 ^ (rounds - 27)) × (m * 4 ^ (rounds - 27) < 2 ^ 54 * 2 ^ 54)
  in_place =
      let s = size m in
      let s_le : s ≤ 54 = size-le m 54 few in
      let j = rounds - 27 in
      let lead : 2 ^ (s - 1) ≤ m = size_reaches m (s - 1) (omega (arith, one_digit)) in
      let four : m * 4 ^ j ≡ m * 2 ^ (j + j) = ap (λ (x : ℕ). m * x) (pow_four j ∙ sym (pow-add 2 j j)) in (
        le_trans (pow_mono {i = 106} {j = s - 1 + (j + j)} (omega (arith, one_digit)))
            (le_trans (le_of_eq (pow-add 2 (s - 1) (j + j))) (le_trans (mul-le-mul_right (2 ^ (j + j)) lead) (le_of_eq (sym four)))),
        lt_of_le_of_lt (le_of_eq four) (lt_of_lt_of_le (shl_lt s (j + j) (size-lt m)) (pow_mono {i = s + (j + j)} {j = 108} (omega arith))),
      )

  -- m has a root of 54 digits
  pub has_root : Rooted m (floor_root (m * 4 ^ (rounds - 27))) rounds
  has_root =
      let n = m * 4 ^ (rounds - 27) in
      let q = floor_root n in
      let within = root_within n (2 ^ 53) (2 ^ 54) q in_place.0 in_place.1 (floor_root_lem n) in
      record { low = within.0; high = within.1; least = omega arith; most = omega (arith, one_digit); is_root = floor_root_lem n }

-- ---- the theorem

square_lt : (x y : ℕ) → x < y → x * x < y * y
square_lt x y h = lt_of_lt_of_le {n = x * x} {m = suc x * suc x} (more x) (mul-le-mul h h)
  where
    more : (x : ℕ) → x * x < suc x * suc x
    more x = simp (mul-suc, suc-mul) (omega arith)

-- the root of a positive double is rounded to the nearest
sqrt_nearest : (x : Float) (m k : ℕ) → 0 < m → m < 2 ^ 53 → k ≤ 2097 → HasValue x false (m * 2 ^ k) (2 ^ 1074) → NearestRoot (m * 2 ^ k) (sqrt_of x)
sqrt_nearest x m k some few low v = record {
  r = R;
  g = G;
  value = subst (λ (y : Float). HasValue y false (R * 2 ^ G) (2 ^ 1074))
      (sym (sqrt_of_value x n v (mul-pos some (pow_pos k)) ∙ rounded_is m k q i low d)) (rounded_value m k q i low d);
  place_low = le_trans (mul-le-mul_right (4 ^ G) (le_trans (mul-le-mul d.low d.low) d.is_root.0)) (le_of_eq (sym scales));
  place_high = lt_of_le_of_lt (le_of_eq scales) (mul-lt-mul_of_pos_right (lt_of_lt_of_le d.is_root.1 (mul-le-mul d.high d.high)) pow_four_pos);
  above = lt_of_lt_of_le (mul-lt-mul_of_pos_right lower pow_four_pos) (le_of_eq (sym scales));
  below = lt_of_le_of_lt (le_of_eq scales) (mul-lt-mul_of_pos_right upper pow_four_pos);
}
  where
    n : ℕ
    n = m * 2 ^ k

    M : ℕ
    M = m * (1 + k % 2)

    M-some : 0 < M
    M-some = mul-pos some (omega arith)

    M-few : M < 2 ^ 54
    M-few = let two : 1 + k % 2 ≤ 2 = omega arith in lt_of_le_of_lt (mul-le-mul (le_of_eq refl) two) (omega arith)

    i : ℕ
    i = rounds M M-some M-few

    q : ℕ
    q = floor_root (M * 4 ^ (i - 27))

    d : Rooted M q i
    d = has_root M M-some M-few

    R : ℕ
    R = (q + 1) / 2

    G : ℕ
    G = field m k q i low d

    A : ℕ
    A = a m k q i low d

    C : ℕ
    C = c m k q i low d

    pow_four_pos : 0 < 4 ^ G
    pow_four_pos = subst (λ (x : ℕ). 0 < x) (sym (pow_four G)) (mul-pos (pow_pos G) (pow_pos G))

    scales : 4 * (n * 2 ^ 1074) ≡ A * 4 ^ G
    scales =
        mul_left_comm 4 n (2 ^ 1074)
        ∙ sym (mul_assoc n (2 ^ 110) (2 ^ 966))
        ∙ ap (λ (x : ℕ). x * 2 ^ 966) (scale m k q i low d)
        ∙ ap (λ (x : ℕ). A * x * 4 ^ 483) (sym (pow_four C))
        ∙ mul_assoc A (4 ^ C) (4 ^ 483)
        ∙ ap (λ (x : ℕ). A * x) (sym (pow-add 4 C 483) ∙ ap (λ (x : ℕ). 4 ^ x) (field_is m k q i low d))

    lower : (2 * R - 1) * (2 * R - 1) < A
    lower = elim (eq-or-lt_of_le near) [
      | inl e ↦ subst (λ (x : ℕ). x * x < A) (sym e) (lt_of_le-ne d.is_root.0 (λ z. odd e (no_tie m k q i low d z)))
      | inr l ↦ lt_of_lt_of_le (square_lt (2 * R - 1) q l) d.is_root.0
    ]
      where
        near : 2 * R - 1 ≤ q
        near = omega arith

        odd : 2 * R - 1 ≡ q → q % 2 ≢ 0
        odd e z = omega (arith, d.low)

    upper : A < (2 * R + 1) * (2 * R + 1)
    upper = lt_of_lt_of_le d.is_root.1 (mul-le-mul far far)
      where
        far : suc q ≤ 2 * R + 1
        far = omega arith

-- ---- the same for every positive number of the format

-- x is n * 2 ^ -1074 for a whole n, and `sqrt_of x` is the nearest to its root
pub sqrt_is_nearest :
    (m : ℕ) (e : ℤ) → T (fits binary64 (fin false (suc m) e)) →
    (n : ℕ) × HasValue (fin false (suc m) e) false n (2 ^ 1074) × NearestRoot n (sqrt_of (fin false (suc m) e))
sqrt_is_nearest m e f =
    let u = in_units m e f in
    let k = u.power in
    let low : k ≤ 2097 = le_of_suc-le-suc (lt_of_not-le (λ (h : 2098 ≤ k). not-le_of_lt u.room (mul-le-mul (zero-lt-suc m) (pow_mono h)))) in
    (suc m * 2 ^ k, (refl, u.is), sqrt_nearest (fin false (suc m) e) (suc m) k (zero-lt-suc m) u.few low (refl, u.is))
