-- DenStream's period is a whole double from 1 to 2^38, for every lambda that opens and every beta × mu above 1. Its ln is asked at least 1, or a
-- NaN where beta × mu overflows; and 2^(−lambda × tp) − 1 is not 0. Assumes nothing.
use Rattle.std.specs.Prelude.{◌≡◌, ℕ, zero, suc, ◌+◌, ◌-◌, ◌*◌, ◌^◌, ◌<◌, ◌≤◌, true, false, T, ◌⊎◌, ℤ, pos, negsuc, Float}
use Rattle.std.proofs.Math.Path.{refl}
use Rattle.std.proofs.Common.{sym, ap, ◌∙◌, subst, inl, inr, ⊎_elim, true≢false, arith, le_trans, le_of_eq, le_of_lt, lt_of_lt_of_le, mul-pos, mul-one, mul_comm, mul_assoc, mul_right_comm, zero-mul, zero-lt-suc, mul-le-mul, mul-le-mul_right, le_of_mul-le-mul_right, ltb→lt, pow_mono, pow_pos, shl_lt}
use Rattle.std.proofs.Math.Logic.{by_cases}
use Rattle.std.proofs.Math.Decide.{dec_lt}
use Rattle.std.specs.Float.{nan, inf, fin, binary64}
use Rattle.std.specs.Float.Ieee.{up, down, round, sum, add, sub, neg, lt, le, eq, of_bits, fits}
use Rattle.std.specs.Float.Ieee.Fits.{down_pos, up_pos, mul-fits}
use Rattle.std.specs.Float.Ieee.Exact.{round_exact}
use Rattle.std.specs.Float.Ieee.Back.{round_whole}
use Rattle.float.specs.Rounded.{◌⊖◌, ◌⊗◌, ◌⊘◌, nought, one, Is}
use Rattle.float.specs.Laws.Computed.{computed}
use Rattle.float.specs.TwoTo.{two_to}
use Rattle.float.specs.Ln.{log2_of}
use Rattle.float.specs.Laws.Opened.{mul_fin, div_fin, sum_away, mul_nan}
use Rattle.float.specs.Laws.Ordered.{round_mono_signed}
use Rattle.float.specs.Laws.Units.{Units, in_units, halves_exact}
use Rattle.float.specs.Laws.Bounds.{Bounded, In, sized, round_between, mul_in}
use Rattle.float.specs.Laws.Ln.{log2_in}
use Rattle.float.specs.Laws.BelowOne.{minus_of, less_one_some}
use Rattle.model.specs.Questions.{lambda_in_range}
use Rattle.model.specs.Periods.{bm_of, tp_of, Period}
use Rattle.model.specs.Laws.Periods.{UpTo, none, up_to, whole_period, lambda_in, interval_in}

-- ---- of a double x above 1: x − 1 is at least x/2^53, rounded too
swap : (a c : ℕ) → a * (c * 2 ^ 53) ≡ a * 2 ^ 53 * c
swap a c = ap (λ (n : ℕ). a * n) (mul_comm c (2 ^ 53)) ∙ sym (mul_assoc a (2 ^ 53) c)

scaled : (a b c : ℕ) → a ≤ b * 2 ^ 53 → b ≤ a → Bounded (c * 2 ^ 53) a (a * 2 ^ 53) b (c * 1)
scaled a b c h k =
    let l = mul-le-mul_right c h in
    let r = mul-le-mul_right (c * 2 ^ 53) k in
    (rw mul-one (omega (arith, swap b c)), rw mul-one (omega (arith, swap a c)))

module _ (m : ℕ) (e : ℤ) (u : Units (suc m) e) (above : down e < suc m * up e) where
  abbrev M : ℕ
  M = suc m * up e

  not_small : 53 ≤ u.power
  not_small = by_cases (dec_lt u.power 53) (λ h. absurd (
      let k : suc m * 2 ^ u.power ≤ 2 ^ 1074 =
      le_of_lt (lt_of_lt_of_le (shl_lt 53 u.power u.few) (pow_mono {i = 53 + u.power} {j = 1074} (omega arith))) in
      let l : M * 2 ^ 1074 ≤ down e * 2 ^ 1074 =
      le_trans (le_of_eq u.is) (le_trans (mul-le-mul_right (down e) k) (le_of_eq (mul_comm (2 ^ 1074) (down e)))) in
      let r : M ≤ down e = le_of_mul-le-mul_right {k = 2 ^ 1074} l (pow_pos 1074) in
      omega (arith, above))) (λ h. omega arith)

  most : M ≤ (M - down e) * 2 ^ 53
  most = go e u above
    where
      go : (e : ℤ) → Units (suc m) e → down e < suc m * up e → suc m * up e ≤ (suc m * up e - down e) * 2 ^ 53
      go (pos k) u h = omega arith
      go (negsuc k) u h = omega (arith, u.few)

  -- and at most x
  less_in : In false (down e * 2 ^ 53) M (M * 2 ^ 53) (fin false (suc m) e ⊖ fin false 1 (pos 0))
  less_in =
      let D : 0 < down e * 2 ^ 53 = mul-pos (down_pos e) (pow_pos 53) in
      let same = mul_right_comm M (2 ^ 53) (2 ^ 1074) ∙ ap (λ (n : ℕ). n * 2 ^ 53) u.is ∙ mul_assoc (suc m * 2 ^ u.power) (down e) (2 ^ 53) in
      let own = round_exact binary64 false (M * 2 ^ 53) (down e * 2 ^ 53) (suc m) u.power D u.few u.room same in
      rw (sub_opened, sum_away binary64 false (M * 1) (1 * 1 * down e) (down e * 1) (omega (arith, above)))
      (round_between (down e * 2 ^ 53) M (M * 2 ^ 53) (M * 1 - 1 * 1 * down e) (down e * 1) D (mul-pos (down_pos e) (zero-lt-suc 0))
      (halves_exact u 53 not_small) own false (scaled M (M * 1 - 1 * 1 * down e) (down e) (omega (arith, most)) (omega arith)))
    where
      sub_opened : fin false (suc m) e ⊖ fin false 1 (pos 0) ≡ sum binary64 false (M * 1) true (1 * 1 * down e) (down e * 1)
      sub_opened = unfold sub neg add in refl

  -- so x/(x − 1) is from 1 to 2^53
  over_in : {d : Float} → In false (down e * 2 ^ 53) M (M * 2 ^ 53) d → In false 1 1 (2 ^ 53) (fin false (suc m) e ⊘ d)
  over_in (sized zero g l h) = absurd (
      let z : 0 * up g * (down e * 2 ^ 53) ≡ 0 = ap (λ (n : ℕ). n * (down e * 2 ^ 53)) (zero-mul (up g)) ∙ zero-mul (down e * 2 ^ 53) in
      let k : 0 < M * down g = mul-pos (mul-pos (zero-lt-suc m) (up_pos e)) (down_pos g) in
      omega arith)
  over_in (sized (suc n) g l h) =
      let N = suc n * up g * down e in
      let a : suc n * up g * (down e * 2 ^ 53) ≡ N * 2 ^ 53 = sym (mul_assoc (suc n * up g) (down e) (2 ^ 53)) in
      let b : M * 2 ^ 53 * down g ≡ M * down g * 2 ^ 53 = mul_right_comm M (2 ^ 53) (down g) in
      rw (div_fin binary64 false (suc m) e false n g)
      (round_between 1 1 (2 ^ 53) (M * down g) N (zero-lt-suc 0) (mul-pos (mul-pos (zero-lt-suc n) (up_pos g)) (down_pos e))
      (round_whole binary64 false 1 (omega arith)) (round_whole binary64 false (2 ^ 53) (omega arith)) false (omega arith, omega arith))

-- ---- "bm/(bm−1)": a NaN where beta × mu overflows
inf_ratio : inf false ⊘ (inf false ⊖ one) ≡ nan
unfolding computed
inf_ratio = refl

pub ratio_in : (x : Float) → T (fits binary64 x) → lt one x ≡ true → (x ⊘ (x ⊖ one) ≡ nan) ⊎ In false 1 1 (2 ^ 53) (x ⊘ (x ⊖ one))
unfolding lt of_bits
ratio_in nan f e = absurd (true≢false (sym e))
ratio_in (inf true) f e = absurd (true≢false (sym e))
ratio_in (inf false) f e = inl inf_ratio
ratio_in (fin true m d) f e = absurd (true≢false (sym e))
ratio_in (fin false zero d) f e =
    absurd (let h : 1 * down d < 0 * up d * 1 = ltb→lt (1 * down d) (0 * up d * 1) (subst T (sym e) tt) in omega (arith, zero-mul (up d)))
ratio_in (fin false (suc m) d) f e =
    let h : 1 * down d < suc m * up d * 1 = ltb→lt (1 * down d) (suc m * up d * 1) (subst T (sym e) tt) in
    let u = in_units m d f in
    let k : down d < suc m * up d = omega arith in
    inr (over_in m d u k (less_in m d u k))

log2_nan : log2_of nan ≡ nan
unfolding computed
log2_nan = refl

-- lambda × tp is at least 2^−32
least : round binary64 true 1 (2 ^ 32) ≡ minus_of 32
unfolding round
least = refl

faded : {b k : ℕ} {lambda : Float} (tp : Float) → In false (2 ^ 32) 1 b lambda → 0 < k → Is tp k → T (le (neg lambda ⊗ tp) (minus_of 32))
unfolding neg
faded nan i K p = absurd p
faded (inf t) i K p = absurd p
faded (fin true m d) i K p = absurd (true≢false p.0)
faded (fin false m d) (sized n e l h) K p =
    let A = n * up e * (m * up d) in
    let one_at_least = mul-le-mul_right (down d) K in
    let g : 1 * down e * down d ≤ n * up e * 2 ^ 32 * (m * up d) = mul-le-mul l (omega (arith, p.1)) in
    let c : n * up e * 2 ^ 32 * (m * up d) ≡ A * 2 ^ 32 = mul_right_comm (n * up e) (2 ^ 32) (m * up d) in
    rw (mul_fin binary64 true n e false m d)
    (subst (λ (z : Float). T (le (round binary64 true A (down e * down d)) z)) least
    (round_mono_signed binary64 true A (down e * down d) true 1 (2 ^ 32) (mul-pos (down_pos e) (down_pos d)) (pow_pos 32) (omega arith)))

module _ (lambda beta mu : Float) (range : lambda_in_range lambda ≡ true) (above : lt one (bm_of beta mu) ≡ true) where
  abbrev bm : Float
  bm = bm_of beta mu

  -- "tp = max(1, ceil((1/lambda) × log2(bm/(bm−1))))"
  pub tp_whole : Period (2 ^ 38) (tp_of lambda bm)
  tp_whole = whole_period (2 ^ 38) (omega arith) (omega arith) (⊎_elim overflown plain (ratio_in bm (mul-fits binary64 beta mu) above))
    where
      overflown : bm ⊘ (bm ⊖ one) ≡ nan → UpTo (2 ^ 38) (one ⊘ lambda ⊗ log2_of (bm ⊘ (bm ⊖ one)))
      overflown n =
          let e = ap (λ (v : Float). one ⊘ lambda ⊗ log2_of v) n ∙ ap (λ (v : Float). one ⊘ lambda ⊗ v) log2_nan ∙ mul_nan binary64 (one ⊘ lambda) in
          subst (UpTo (2 ^ 38)) (sym e) none

      plain : In false 1 1 (2 ^ 53) (bm ⊘ (bm ⊖ one)) → UpTo (2 ^ 38) (one ⊘ lambda ⊗ log2_of (bm ⊘ (bm ⊖ one)))
      plain i = up_to (2 ^ 38) (mul_in 4 tt 0 (2 ^ 42) tt (interval_in (lambda_in lambda range)) (log2_in i))

  -- "2^(−lambda × tp) − 1", by which an outlier's bound is divided
  pub divisor_some : eq (two_to (neg lambda ⊗ tp_of lambda bm) ⊖ one) nought ≡ false
  divisor_some = less_one_some (neg lambda ⊗ tp_of lambda bm) (faded (tp_of lambda bm) (lambda_in lambda range) tp_whole.some tp_whole.is)
