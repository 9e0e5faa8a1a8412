-- Whole ticks: where the clock and the period are whole doubles, a multiple is what `t % t_gap == 0` of doubles says, as in the Rust. Assumes nothing.
use Rattle.std.specs.Prelude.{◌≡◌, ℕ, ◌-◌, ◌*◌, ◌/◌, ◌%◌, ◌^◌, ◌<◌, ◌≤◌, min, true, false, refl, Float}
use Rattle.std.proofs.Common.{sym, ap, ◌∙◌, true≢false, arith, le_trans, le_of_lt, mod-lt, mul-div_cancel, lt-ltb, le-ltb, ne_eqb}
use Rattle.std.proofs.Math.Logic.{by_cases}
use Rattle.std.proofs.Math.Nat.{min-eq_left}
use Rattle.std.proofs.Math.Decide.{ℕ_discrete}
use Rattle.std.specs.Float.{nan, inf, fin, binary64}
use Rattle.std.specs.Float.Ieee.{up, down, eq, rem, of_bits, to_unsigned}
use Rattle.std.specs.Float.Ieee.Fits.{down_pos}
use Rattle.float.specs.Rounded.{nought, whole, Is}
use Rattle.float.specs.Laws.Whole.{whole_is, lt_is, eq_is, rem_is}
use Rattle.model.specs.Fading.{ticks_most, ticks_of, is_multiple}

-- a whole double cut to 64 bits
cut_is : (x : Float) (n : ℕ) → n ≤ 2 ^ 53 → Is x n → to_unsigned 64 x ≡ n
unfolding to_unsigned
cut_is nan n h p = absurd p
cut_is (inf t) n h p = absurd p
cut_is (fin true m e) n h p = absurd (true≢false p.0)
cut_is (fin false m e) n h p =
    let q : m * up e ≡ n * down e = omega (arith, p.1) in
    let r : m * up e / down e ≡ n = ap (λ (i : ℕ). i / down e) q ∙ mul-div_cancel n (down_pos e) in
    ap (λ (i : ℕ). min i (2 ^ 64 - 1)) r ∙ min-eq_left (omega arith)

none_is : Is nought 0
unfolding of_bits
none_is = (refl, refl)

most_is : Is ticks_most (2 ^ 63)
unfolding of_bits
most_is = (refl, refl)

pub ticks_are : (x : Float) (n : ℕ) → n ≤ 2 ^ 53 → Is x n → ticks_of x ≡ n
unfolding ticks_of
ticks_are x n h p =
    by_cases (ℕ_discrete n 0)
    (λ z. rw (lt_is nought x 0 n none_is p ∙ le-ltb 0 n (omega arith)) (sym z))
    (λ z.
    rw (lt_is nought x 0 n none_is p ∙ lt-ltb 0 n (omega arith), lt_is x ticks_most n (2 ^ 63) p most_is ∙ lt-ltb n (2 ^ 63) (omega arith))
    (cut_is x n h p))

-- "if t is a multiple of t_gap": the Rust's `t % t_gap == 0.0`
pub multiple_of_doubles :
    (t period : Float) (n k : ℕ) →
    n ≤ 2 ^ 53 →
    0 < k →
    k ≤ 2 ^ 53 →
    Is t n →
    Is period k →
    is_multiple t period ≡ eq (rem binary64 t period) nought
multiple_of_doubles t period n k h z l p q =
    rw (ticks_are t n h p, ticks_are period k l q, ne_eqb k 0 (λ e. omega arith), rem_is t period n k z p q)
    (sym (eq_is (whole (n % k)) nought (n % k) 0 (whole_is (n % k) (le_trans (le_of_lt (mod-lt n z)) l)) none_is))
