-- ln and log2 of what is from 1 to 2^53: from 0 to 42 and to 64. Bounds in sixteenths. Assumes nothing.
use Rattle.std.specs.Prelude.{◌≡◌, ℕ, zero, suc, ◌+◌, ◌-◌, ◌*◌, ◌/◌, ◌^◌, ◌<◌, ◌≤◌, false, T, pos, neg_ℤ, refl, Float}
use Rattle.std.proofs.Common.{ap, ◌∙◌, subst, le_trans, mul_comm, mul_right_comm, mul-le-mul_right, le_of_mul-le-mul_right, div-lt_iff_lt-mul, div-mul-le_self, mul-pos, pow-suc, arith, lit<, lit≤, pow_pos}
use Rattle.std.specs.Float.{binary64}
use Rattle.std.specs.Float.Ieee.{up, down, size, le, of_bits}
use Rattle.std.specs.Float.Ieee.Fits.{down_pos}
use Rattle.std.specs.Float.Ieee.Digits.{size-lt, size-le, size_reaches}
use Rattle.std.specs.Float.Ieee.Bits.{is_true}
use Rattle.float.specs.Rounded.{◌⊕◌, ◌⊗◌, ◌⊘◌, nought, one, two, whole}
use Rattle.float.specs.TwoTo.{L}
use Rattle.float.specs.Ln.{exponent_of, plus_power, series, ln_by, ln_of, log2_of}
use Rattle.float.specs.Laws.Opened.{div_fin}
use Rattle.float.specs.Laws.Ordered.{parts→le}
use Rattle.float.specs.Laws.Bounds.{In, sized, round_in, one_in, whole_in, mul_in, div_in, add_in, sub_in}

nought_in : In false 16 0 22 nought
unfolding of_bits
nought_in = sized 0 (pos 0) (lit≤ tt) (lit≤ tt)

two_in : In false 16 32 32 two
unfolding of_bits
two_in = sized 1 (pos 1) (lit≤ tt) (lit≤ tt)

L-in : In false 16 11 12 L
unfolding of_bits
L-in = sized 6243314768165359 (neg_ℤ (pos 53)) (lit≤ tt) (lit≤ tt)

-- ---- "v = m × 2^e, 1 ≤ m < 2", and e is at most 53
record Parts (M D E : ℕ) : Type 0 where
  few : E ≤ 53
  low : 2 ^ E * D ≤ M
  high : M ≤ 2 * (2 ^ E * D)

parts : (M D : ℕ) → 0 < D → D ≤ M → M ≤ 2 ^ 53 * D → Parts M D (size (M / D) - 1)
parts M D some low high = go (size n) refl
  where
    n : ℕ
    n = M / D

    floor : n * D ≤ M
    floor = div-mul-le_self M D

    next : M < suc n * D
    next = (div-lt_iff_lt-mul some).0 (omega arith)

    few : n ≤ 2 ^ 53
    few = le_of_mul-le-mul_right {k = D} (le_trans floor high) some

    go : (z : ℕ) → size n ≡ z → Parts M D (size n - 1)
    go zero e = absurd (
        let h : n < 2 ^ 0 = subst (λ (z : ℕ). n < 2 ^ z) e (size-lt n) in
        let k : suc n * D ≤ 1 * D = mul-le-mul_right D h in
        omega (arith, next))
    go (suc E) e =
        let h : n < 2 ^ suc E = subst (λ (z : ℕ). n < 2 ^ z) e (size-lt n) in
        let a = mul-le-mul_right D (size_reaches n E (omega arith)) in
        let b = mul-le-mul_right D h in
        let c : 2 ^ suc E * D ≡ 2 * (2 ^ E * D) = ap (λ (z : ℕ). z * D) (pow-suc 2 E) ∙ mul_right_comm (2 ^ E) 2 D ∙ mul_comm (2 ^ E * D) 2 in
        let same : E ≡ size n - 1 = omega arith in
        let z = size-le n 54 (omega (arith, few)) in
        subst (Parts M D) same (record { few = omega arith; low = omega (arith, floor); high = omega (arith, next) })

exponent_le : {v : Float} → In false 1 1 (2 ^ 53) v → exponent_of v ≤ 53
unfolding exponent_of
exponent_le (sized m e l h) = (parts (m * up e) (down e) (down_pos e) (omega arith) (omega arith)).few

mantissa_in : {v : Float} → In false 1 1 (2 ^ 53) v → In false 16 16 32 (v ⊘ plus_power (exponent_of v))
unfolding exponent_of
mantissa_in (sized m e l h) =
    let E = size (m * up e / down e) - 1 in
    let p = parts (m * up e) (down e) (down_pos e) (omega arith) (omega arith) in
    rw (div_fin binary64 false m e false 0 (pos E))
    (round_in 4 tt false 16 32 (m * up e * 1) (1 * 2 ^ E * down e) tt (mul-pos (mul-pos (lit< tt) (pow_pos E)) (down_pos e))
    (omega (arith, p.low), omega (arith, p.high)))

-- ---- "h becomes h × q + 1/(2k+1)"
series_in : {q h : Float} (n : ℕ) → n ≤ 21 → In false 16 0 4 q → In false 16 0 22 h → In false 16 0 22 (series q n h)
unfolding series
series_in zero N i k = k
series_in {q = q} {h = h} (suc n) N i k =
    series_in {h = h ⊗ q ⊕ one ⊘ whole (2 * n + 1)} n (omega arith) i
    (add_in 4 tt tt (mul_in 4 tt 0 6 tt k i)
    (div_in 4 tt 0 16 tt tt (one_in 4 tt) (whole_in 4 tt (2 * n + 1) 16 688 (omega arith) (omega arith) (omega arith))))

-- "the answer is e × L + (2 × s) × h"
ln_by_in : (e : ℕ) {m : Float} → e ≤ 53 → In false 16 16 32 m → In false 16 0 658 (ln_by e m)
unfolding ln_by
ln_by_in e h i =
    let s = div_in 4 tt 0 8 tt tt (sub_in 4 tt 0 16 tt i (one_in 4 tt)) (add_in 4 tt tt i (one_in 4 tt)) in
    add_in 4 tt tt (mul_in 4 tt 0 636 tt (whole_in 4 tt e 0 848 (omega arith) (omega arith) (omega arith)) L-in)
    (mul_in 4 tt 0 22 tt (mul_in 4 tt 0 16 tt two_in s)
    (series_in 21 (lit≤ tt) (mul_in 4 tt 0 4 tt s s) nought_in))

-- what is bounded by 1 from below is at least 1
pub above_one : {b : ℕ} {x : Float} → In false 1 1 b x → T (le one x)
unfolding of_bits
above_one (sized m e l h) = parts→le false 1 (pos 0) false m e (omega arith)

-- ln from 1 to 2^53, in sixteenths
pub ln_in : {v : Float} → In false 1 1 (2 ^ 53) v → In false 16 0 658 (ln_of v)
unfolding ln_of
ln_in {v} (sized m e l h) =
    let i : In false 1 1 (2 ^ 53) v = sized m e l h in
    rw (is_true (le one v) (above_one i)) (ln_by_in (exponent_of v) (exponent_le i) (mantissa_in i))

-- log2 from 1 to 2^53, in sixteenths
pub log2_in : {v : Float} → In false 1 1 (2 ^ 53) v → In false 16 0 1024 (log2_of v)
unfolding log2_of
log2_in i = div_in 4 tt 0 1024 tt tt (ln_in i) L-in
