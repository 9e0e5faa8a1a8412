-- How `round` rounds a root that is cut to a whole number with a sticky digit, and what bits the result has. Assumes nothing.
use Rattle.std.specs.Prelude.{◌≡◌, ℕ, zero, suc, ◌+◌, ◌-◌, ◌*◌, ◌/◌, ◌%◌, ◌^◌, ◌<◌, ◌≤◌, true, false, not, T, ◌≢◌, from_bits, refl, Float}
use Rattle.std.proofs.Common.{sym, ap, ◌∙◌, inl, inr, le_trans, le_of_eq, le_antisymm, lt_of_lt_of_le, lt_of_le_of_lt, lt_of_not-le, lt_irrefl, zero-add, mul_comm, mul_left_comm, mul_assoc, suc-mul, mul-pos, mul-le-mul_right, le-div_iff_mul-le, div-lt_iff_lt-mul, mul-lt-mul_of_pos_right, mul-div_cancel, eq-or-lt_of_le, pow-suc, arith, true≢false, leb→le, eqb→eq, pow-add, pow_pos, pow_mono, shl_lt}
use Prim.Native.Nat.{compare, Ordering}
use Rattle.std.proofs.Math.Nat.{mul-mul-mul_comm, eq_of_mul-eq-mul_right}
use Rattle.std.proofs.Math.Arith.{digits_div, digits_mod}
use Rattle.std.proofs.Math.Dec.{is_le, compare_is_eq, nleb→lt}
use Rattle.std.specs.Float.{nan, inf, fin, binary64}
use Rattle.std.specs.Float.Ieee.{down, size, nearest, units, round, fits, to_bits}
use Rattle.std.specs.Float.Ieee.Digits.{size-lt, size-le}
use Rattle.std.specs.Float.Ieee.Fits.{round_is, down_pos}
use Rattle.std.specs.Float.Ieee.Exact.{HasValue, units_val}
use Rattle.std.specs.Float.Ieee.Nearest.{closest, closest_same}
use Rattle.std.specs.Float.Ieee.Bits.{of_bits-to_bits}
use Rattle.sqrt.specs.Root.{IsRoot}
use Rattle.sqrt.specs.Laws.Floor.{below_of_squares, Sticky}

-- ---- `closest`, where the remainder is below or above the half

cmp_lt : (a b : ℕ) → a < b → compare a b ≡ Ordering.lt
cmp_lt a b h = go (compare a b) (nleb→lt a b) (eqb→eq a b)
  where
    no_gt : b < a → ⊥
    no_gt k = omega arith

    no_eq : a ≡ b → ⊥
    no_eq e = omega arith

    go : (o : Ordering) → (T (not (is_le o)) → b < a) → (T (compare_is_eq o) → a ≡ b) → o ≡ Ordering.lt
    go Ordering.lt k e = refl
    go Ordering.eq k e = absurd (no_eq (e tt))
    go Ordering.gt k e = absurd (no_gt (k tt))

cmp_gt : (a b : ℕ) → b < a → compare a b ≡ Ordering.gt
cmp_gt a b h = go (compare a b) (leb→le a b)
  where
    no : a ≤ b → ⊥
    no k = omega arith

    go : (o : Ordering) → (T (is_le o) → a ≤ b) → o ≡ Ordering.gt
    go Ordering.lt k = absurd (no (k tt))
    go Ordering.eq k = absurd (no (k tt))
    go Ordering.gt k = refl

closest_at : (a v r : ℕ) → r < 2 * v → closest (a * (2 * v) + r) (2 * v) ≡ nearest a (compare (r * 2) (2 * v))
closest_at a v r h =
    ap (λ (x : ℕ). nearest x (compare ((a * (2 * v) + r) % (2 * v) * 2) (2 * v))) (digits_div a h)
    ∙ ap (λ (x : ℕ). nearest a (compare (x * 2) (2 * v))) (digits_mod a h)

closest_low : (a v r : ℕ) → r < v → closest (a * (2 * v) + r) (2 * v) ≡ a
closest_low a v r h = closest_at a v r (omega arith) ∙ ap (nearest a) (cmp_lt (r * 2) (2 * v) (omega arith))

closest_high : (a v r : ℕ) → v < r → r < 2 * v → closest (a * (2 * v) + r) (2 * v) ≡ suc a
closest_high a v r l h = closest_at a v r h ∙ ap (nearest a) (cmp_gt (r * 2) (2 * v) (omega arith))

-- t lies in the step of v from q * v on, and at its start only where q is even: the nearest multiple of 2 * v
closest_step : (q v t : ℕ) → q * v ≤ t → t < suc q * v → (t ≡ q * v → q % 2 ≡ 0) → closest t (2 * v) ≡ (q + 1) / 2
closest_step q v t lo hi tie = go (q % 2) refl
  where
    a : ℕ
    a = q / 2

    -- a * (2 * v), which `omega` takes as an unknown
    whole : a * (2 * v) ≡ 2 * a * v
    whole = mul_left_comm a 2 v ∙ sym (mul_assoc 2 a v)

    even : q % 2 ≡ 0 → q ≡ 2 * a
    even e = omega arith

    odd : q % 2 ≡ 1 → q ≡ suc (2 * a)
    odd e = omega arith

    one : (r : ℕ) → q % 2 ≡ suc r → q % 2 ≡ 1
    one r e = omega arith

    go : (r : ℕ) → q % 2 ≡ r → closest t (2 * v) ≡ (q + 1) / 2
    go zero e =
        let x : q * v ≡ a * (2 * v) = ap (λ (z : ℕ). z * v) (even e) ∙ sym whole in
        let rest : t ≡ a * (2 * v) + (t - a * (2 * v)) = omega arith in
        let below : t - a * (2 * v) < v = omega (arith, suc-mul q v) in
        let same : a ≡ (q + 1) / 2 = omega arith in
        ap (λ (z : ℕ). closest z (2 * v)) rest ∙ closest_low a v (t - a * (2 * v)) below ∙ same
    go (suc r) e =
        let x : q * v ≡ a * (2 * v) + v = ap (λ (z : ℕ). z * v) (odd (one r e)) ∙ suc-mul (2 * a) v ∙ ap (λ (z : ℕ). z + v) (sym whole) in
        let rest : t ≡ a * (2 * v) + (t - a * (2 * v)) = omega arith in
        let above : v < t - a * (2 * v) = strict (one r e) x in
        let below : t - a * (2 * v) < 2 * v = omega (arith, suc-mul q v) in
        let same : suc a ≡ (q + 1) / 2 = omega arith in
        ap (λ (z : ℕ). closest z (2 * v)) rest ∙ closest_high a v (t - a * (2 * v)) above below ∙ same
      where
        strict : q % 2 ≡ 1 → q * v ≡ a * (2 * v) + v → v < t - a * (2 * v)
        strict o x = elim (eq-or-lt_of_le lo) [
          | inl z ↦ absurd (no (tie (sym z)) o)
          | inr l ↦ omega arith
        ]
          where
            no : q % 2 ≡ 0 → q % 2 ≢ 1
            no y z = omega arith

-- ---- the step in which the cut root lies

-- n is a * (p * p), and q is the whole part of a's root: then t lies in the step of 2 * p from q * (2 * p) on, and at its start only where a is a square
pub record Step (a p q t : ℕ) : Type 0 where
  pub from : q * (2 * p) ≤ t
  pub to : t < suc q * (2 * p)
  pub exact : t ≡ q * (2 * p) → q * q ≡ a

-- the sticky root lies in that step
pub step_of : (n a p q t : ℕ) → 0 < p → n ≡ a * (p * p) → IsRoot a q → Sticky n t → Step a p q t
step_of n a p q t P e r s =
    let Q = s.q in
    let pp : 0 < p * p = mul-pos P P in
    let lo : q * p < suc Q =
    below_of_squares n (q * p) (suc Q) (le_trans (le_of_eq (mul-mul-mul_comm q p q p))
    (le_trans (mul-le-mul_right (p * p) r.0) (le_of_eq (sym e)))) s.is_root.1 in
    let hi : Q < suc q * p =
    below_of_squares n Q (suc q * p) s.is_root.0
    (lt_of_le_of_lt (le_of_eq e) (lt_of_lt_of_le (mul-lt-mul_of_pos_right r.1 pp) (le_of_eq (sym (mul-mul-mul_comm (suc q) p (suc q) p))))) in
    let x : q * (2 * p) ≡ 2 * (q * p) = mul_left_comm q 2 p in
    let y : suc q * (2 * p) ≡ 2 * (suc q * p) = mul_left_comm (suc q) 2 p in
    record {
      from = omega (arith, s.low);
      to = omega (arith, s.high);
      exact = λ z.
          let same : Q ≡ q * p = omega (arith, s.low) in
          let twice : t ≡ 2 * Q = omega (arith, s.low) in
          eq_of_mul-eq-mul_right (p * p) pp (q * q) a (sym (mul-mul-mul_comm q p q p) ∙ ap (λ (w : ℕ). w * w) (sym same) ∙ s.exact twice ∙ e);
    }

-- ---- `round`

size_is : (a n : ℕ) → 2 ^ a ≤ n → n < 2 ^ suc a → size n ≡ suc a
size_is a n lo hi = le_antisymm (size-le n (suc a) hi) (lt_of_not-le (λ (g : size n ≤ a). lt_irrefl n (lt_of_lt_of_le (size-lt n) (le_trans (pow_mono g) lo))))

-- it rounds to 53 digits: half of q + 1. b says in which units t is, and k in which the result
module _ (b k c : ℕ) (e : c + 1076 ≡ b + k) where
  -- numbers of more than 38 digits, which `omega` does not take, are worked out by antt
  unit_is : (t : ℕ) → t * 2 ^ 1074 * (2 * (2 * 2 ^ c)) ≡ t * (2 ^ b * 2 ^ k)
  unit_is t =
      mul_assoc t (2 ^ 1074) (2 * (2 * 2 ^ c))
      ∙ ap (λ (x : ℕ). t * x) (ap (λ (x : ℕ). 2 ^ 1074 * x) (sym (mul_assoc 2 2 (2 ^ c)) ∙ sym (pow-add 2 2 c)) ∙ sym (pow-add 2 1074 (2 + c))
      ∙ ap (λ (x : ℕ). 2 ^ x) (sum c e) ∙ pow-add 2 b k)
    where
      sum : (c : ℕ) → c + 1076 ≡ b + k → 1074 + (2 + c) ≡ b + k
      sum c e = omega arith

  place : (x : ℕ) → 2 ^ (k + x) * 2 ^ b ≡ 2 ^ (x + 1) * (2 * 2 ^ c) * 2 ^ 1074
  place x =
      sym (pow-add 2 (k + x) b) ∙ ap (λ (y : ℕ). 2 ^ y) sum ∙ pow-add 2 (x + 1 + (1 + c)) 1074
      ∙ ap (λ (y : ℕ). y * 2 ^ 1074) (pow-add 2 (x + 1) (1 + c) ∙ ap (λ (y : ℕ). 2 ^ (x + 1) * y) (pow-add 2 1 c))
    where
      sum : k + x + b ≡ x + 1 + (1 + c) + 1074
      sum = omega arith

  pub rounds_at :
      (a q t : ℕ) →
      Step a (2 ^ c) q t →
      (q * q ≡ a → q % 2 ≡ 0) →
      2 ^ 53 ≤ q →
      q < 2 ^ 54 →
      round binary64 false t (2 ^ b) ≡ units binary64 false ((q + 1) / 2) k
  rounds_at a q t s tie lo hi =
      let p = 2 ^ c in
      let low : 2 ^ (k + 52) * 2 ^ b ≤ t * 2 ^ 1074 =
      le_trans (le_of_eq (place 52)) (mul-le-mul_right (2 ^ 1074) (le_trans (mul-le-mul_right (2 * p) lo) s.from)) in
      let high : t * 2 ^ 1074 < 2 ^ (k + 53) * 2 ^ b =
      lt_of_lt_of_le (mul-lt-mul_of_pos_right (lt_of_lt_of_le s.to (mul-le-mul_right (2 * p) hi)) (pow_pos 1074)) (le_of_eq (sym (place 53))) in
      let digits : size (t * 2 ^ 1074 / 2 ^ b) ≡ suc (k + 52) =
      size_is (k + 52) (t * 2 ^ 1074 / 2 ^ b) ((le-div_iff_mul-le (pow_pos b)).1 low)
      (lt_of_lt_of_le ((div-lt_iff_lt-mul (pow_pos b)).1 high) (le_of_eq (ap (λ (x : ℕ). 2 ^ x) (shift k)))) in
      round_is binary64 false t (2 ^ b)
      ∙ ap (λ (x : ℕ). units binary64 false (closest (t * 2 ^ 1074) (2 ^ b * 2 ^ x)) x) (ap (λ (x : ℕ). x - 53) digits ∙ dropped k)
      ∙ ap (λ (x : ℕ). units binary64 false x k)
      (closest_same (t * 2 ^ 1074) (2 ^ b * 2 ^ k) t (2 * (2 * p)) (mul-pos (pow_pos b) (pow_pos k)) (quad_pos (pow_pos c)) (unit_is t)
      ∙ closest_step q (2 * p) t s.from s.to (λ z. tie (s.exact z)))
    where
      shift : (k : ℕ) → k + 53 ≡ suc (k + 52)
      shift k = omega arith

      dropped : (k : ℕ) → suc (k + 52) - 53 ≡ k
      dropped k = omega arith

      quad_pos : {p : ℕ} → 0 < p → 0 < 2 * (2 * p)
      quad_pos {p} h = omega arith

-- so the definition's sticky root, in units of 2 ^ -593
pub rounds_to :
    (a c q t : ℕ) →
    Step a (2 ^ c) q t →
    (q * q ≡ a → q % 2 ≡ 0) →
    2 ^ 53 ≤ q →
    q < 2 ^ 54 →
    round binary64 false t (2 ^ 593) ≡ units binary64 false ((q + 1) / 2) (c + 483)
rounds_to a c q t s tie lo hi = rounds_at 593 (c + 483) c (omega arith) a q t s tie lo hi

-- ---- the bits of r * 2 ^ g smallest values, r having 53 digits, or being 2 ^ 53

bits_of_value : (v : Float) (a : ℕ) → HasValue v false a (2 ^ 1074) → to_bits binary64 v ≡ (size a - 53) * 2 ^ 52 + a / 2 ^ (size a - 53)
unfolding to_bits
bits_of_value nan a h = absurd h
bits_of_value (inf s) a h = absurd h
bits_of_value (fin true m e) a h = absurd (true≢false h.0)
bits_of_value (fin false m e) a h =
    ap (λ (n : ℕ). 0 + (size n - 53) * 2 ^ 52 + n / 2 ^ (size n - 53)) (ap (λ (x : ℕ). x / down e) h.1 ∙ mul-div_cancel a (down_pos e))
    ∙ ap (λ (x : ℕ). x + a / 2 ^ (size a - 53)) (zero-add ((size a - 53) * 2 ^ 52))

bits_of : (r g : ℕ) → 2 ^ 52 ≤ r → r ≤ 2 ^ 53 → (size (r * 2 ^ g) - 53) * 2 ^ 52 + r * 2 ^ g / 2 ^ (size (r * 2 ^ g) - 53) ≡ g * 2 ^ 52 + r
bits_of r g lo hi = elim (eq-or-lt_of_le hi) [
  | inl e ↦
      let z : size (r * 2 ^ g) ≡ suc (g + 53) =
      ap (λ (x : ℕ). size (x * 2 ^ g)) e ∙ size_is (g + 53) (2 ^ 53 * 2 ^ g) (le_of_eq (pow-add 2 g 53 ∙ mul_comm (2 ^ g) (2 ^ 53)))
      (lt_of_lt_of_le (shl_lt 54 g (omega arith)) (le_of_eq (ap (λ (x : ℕ). 2 ^ x) (above g)))) in
      ap (λ (x : ℕ). (x - 53) * 2 ^ 52 + r * 2 ^ g / 2 ^ (x - 53)) z
      ∙ ap (λ (x : ℕ). x * 2 ^ 52 + r * 2 ^ g / 2 ^ x) (one g)
      ∙ ap (λ (x : ℕ). suc g * 2 ^ 52 + x) (ap (λ (x : ℕ). x / 2 ^ suc g)
      (ap (λ (x : ℕ). x * 2 ^ g) e ∙ mul_assoc (2 ^ 52) 2 (2 ^ g) ∙ ap (λ (x : ℕ). 2 ^ 52 * x) (mul_comm 2 (2 ^ g) ∙ sym (pow-suc 2 g)))
      ∙ mul-div_cancel (2 ^ 52) (pow_pos (suc g)))
      ∙ carry g r e
  | inr l ↦
      let z : size (r * 2 ^ g) ≡ suc (g + 52) =
      size_is (g + 52) (r * 2 ^ g) (le_trans (le_of_eq (pow-add 2 g 52 ∙ mul_comm (2 ^ g) (2 ^ 52))) (mul-le-mul_right (2 ^ g) lo))
      (lt_of_lt_of_le (shl_lt 53 g l) (le_of_eq (ap (λ (x : ℕ). 2 ^ x) (above' g)))) in
      ap (λ (x : ℕ). (x - 53) * 2 ^ 52 + r * 2 ^ g / 2 ^ (x - 53)) z
      ∙ ap (λ (x : ℕ). x * 2 ^ 52 + r * 2 ^ g / 2 ^ x) (none g)
      ∙ ap (λ (x : ℕ). g * 2 ^ 52 + x) (mul-div_cancel r (pow_pos g))
]
  where
    above : (g : ℕ) → 54 + g ≡ suc (g + 53)
    above g = omega arith

    above' : (g : ℕ) → 53 + g ≡ suc (g + 52)
    above' g = omega arith

    one : (g : ℕ) → suc (g + 53) - 53 ≡ suc g
    one g = omega arith

    none : (g : ℕ) → suc (g + 52) - 53 ≡ g
    none g = omega arith

    carry : (g r : ℕ) → r ≡ 2 ^ 53 → suc g * 2 ^ 52 + 2 ^ 52 ≡ g * 2 ^ 52 + r
    carry g r e = omega arith

-- the value of 53 digits at a power of two
pub units_value : (r g : ℕ) → r ≤ 2 ^ 53 → g ≤ 2044 → HasValue (units binary64 false r g) false (r * 2 ^ g) (2 ^ 1074)
units_value r g hi G = units_val binary64 false r g (lt_of_lt_of_le (shl_lt 54 g (omega arith)) (pow_mono (room g G)))
  where
    room : (g : ℕ) → g ≤ 2044 → 54 + g ≤ 2098
    room g h = omega arith

-- the bits of 53 digits at a power of two
pub bits_are :
    (r g : ℕ) →
    2 ^ 52 ≤ r →
    r ≤ 2 ^ 53 →
    g ≤ 2044 →
    T (fits binary64 (units binary64 false r g)) →
    from_bits binary64 (g * 2 ^ 52 + r) ≡ units binary64 false r g
bits_are r g lo hi G fit =
    ap (from_bits binary64) (sym (bits_of_value (units binary64 false r g) (r * 2 ^ g) (units_value r g hi G) ∙ bits_of r g lo hi))
    ∙ of_bits-to_bits binary64 (units binary64 false r g) fit
