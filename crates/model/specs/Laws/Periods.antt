-- "max(1, ceil(x))" is a whole double; so DBSTREAM's period is one from 1 to 2^32, for every lambda that opens. Assumes nothing.
use Rattle.std.specs.Prelude.{◌≡◌, ℕ, zero, suc, ◌+◌, ◌*◌, ◌/◌, ◌%◌, ◌^◌, ◌<◌, ◌≤◌, Bool, true, false, cond, ◌&&◌, T, ℤ, pos, neg_ℤ, ◌==◌, ◌≢◌, refl, Float}
use Rattle.std.proofs.Common.{sym, ◌∙◌, true≢false, arith, zero-mul, mul-pos, mul_right_comm, div-add-mod', le_of_mul-le-mul_right, lt_of_mul-lt-mul_right, lt-ltb, le-ltb, eqb-true}
use Rattle.std.proofs.Math.Logic.{by_cases}
use Rattle.std.proofs.Math.Decide.{dec_lt}
use Rattle.std.proofs.lemmas.Bool.{eqb-false}
use Rattle.std.specs.Float.{nan, inf, fin, binary64}
use Rattle.std.specs.Float.Ieee.{up, down, lt, le, eq, is_nan, of_bits}
use Rattle.std.specs.Float.Ieee.Fits.{down_pos, up_pos}
use Rattle.float.specs.Rounded.{◌⊘◌, one, whole, Is}
use Rattle.float.specs.Order.{larger}
use Rattle.float.specs.Ceil.{ceil_of}
use Rattle.float.specs.Laws.Opened.{div_fin}
use Rattle.float.specs.Laws.Ordered.{le→parts}
use Rattle.float.specs.Laws.Whole.{whole_is, lt_is}
use Rattle.float.specs.Laws.Bounds.{In, sized, round_in}
use Rattle.model.specs.Questions.{lambda_in_range}
use Rattle.model.specs.Periods.{t_gap_of, Period}

-- ---- the larger of 1 and a whole number is whole
one_is : Is one 1
unfolding of_bits
one_is = (refl, refl)

at_one : (b : ℕ) → 0 < b → (y : Float) → lt one y ≡ false → Period b (larger one y)
unfolding of_bits is_nan
at_one b h y e = rw e (record { ticks = 1; some = omega arith; most = h; is = (refl, refl) })

at_more : (b k : ℕ) (y : Float) → k ≤ b → Is y k → 1 < k → lt one y ≡ true → Period b (larger one y)
unfolding of_bits is_nan
at_more b k y l p g e = rw e (record { ticks = k; some = omega arith; most = l; is = p })

at_whole : (b k : ℕ) (y : Float) → 0 < b → k ≤ b → Is y k → Period b (larger one y)
at_whole b k y h l p =
    by_cases (dec_lt 1 k) (λ g. at_more b k y l p g (lt_is one y 1 k one_is p ∙ lt-ltb 1 k g))
    (λ g. at_one b h y (lt_is one y 1 k one_is p ∙ le-ltb 1 k (omega arith)))

-- ---- so "max(1, ceil(x))" is, where x is a NaN, which loses to 1, or from 0 to b
pub data UpTo (b : ℕ) : Float → Type 0 where
  none : UpTo b nan
  some : (m : ℕ) (e : ℤ) → m * up e ≤ b * down e → UpTo b (fin false m e)

pub up_to : {a : ℕ} (b : ℕ) {x : Float} → In false 16 a (b * 16) x → UpTo b x
up_to b (sized m e l h) = some m e (omega (arith, mul_right_comm b 16 (down e)))

less : (a r s t : ℕ) → a + r ≡ s → (r ≢ 0) → s ≤ t → a < t
less a zero s t e f h = absurd (f refl)
less a (suc r) s t e f h = omega arith

pub whole_period : (b : ℕ) {x : Float} → 0 < b → b ≤ 2 ^ 53 → UpTo b x → Period b (larger one (ceil_of x))
unfolding ceil_of lt of_bits
whole_period b h l none = at_one b h nan refl
whole_period b h l (some m e u) = go (m * up e % down e == 0) refl
  where
    q : ℕ
    q = m * up e / down e

    parts : q * down e + m * up e % down e ≡ m * up e
    parts = div-add-mod' (m * up e) (down e)

    go : (t : Bool) → (m * up e % down e == 0) ≡ t → Period b (larger one (cond t (fin false m e) (whole (q + 1))))
    go true z =
        let r : m * up e % down e ≡ 0 = eqb-true (m * up e % down e) 0 z in
        let g : q * down e ≤ b * down e = omega (arith, parts, u) in
        at_whole b q (fin false m e) h (le_of_mul-le-mul_right {k = down e} g (down_pos e)) (refl, omega (arith, parts))
    go false z =
        let f : m * up e % down e ≡ 0 → ⊥ = eqb-false (m * up e % down e) 0 z in
        let g : q * down e < b * down e = less (q * down e) (m * up e % down e) (m * up e) (b * down e) parts f u in
        let k : q < b = lt_of_mul-lt-mul_right (down e) g in
        at_whole b (q + 1) (whole (q + 1)) h (omega arith) (whole_is (q + 1) (omega arith))

-- ---- "Is lambda in 2^−32 to 64?", so 1/lambda is at most 2^32
both : (a b : Bool) → (a && b) ≡ true → T a × T b
both true true e = (tt, tt)
both true false e = absurd (true≢false (sym e))
both false b e = absurd (true≢false (sym e))

abbrev smallest : Float
smallest = of_bits binary64 0x3df0_0000_0000_0000

abbrev largest : Float
largest = of_bits binary64 0x4050_0000_0000_0000

in_range : (lambda : Float) → T (le smallest lambda) → T (le lambda largest) → In false (2 ^ 32) 1 (2 ^ 38) lambda
unfolding le lt eq of_bits
in_range nan h k = absurd h
in_range (inf true) h k = absurd h
in_range (inf false) h k = absurd k
in_range (fin true m e) h k = absurd (let p = le→parts false 1 (neg_ℤ (pos 32)) true m e h in omega (arith, down_pos e))
in_range (fin false m e) h k =
    let p = le→parts false 1 (neg_ℤ (pos 32)) false m e h in
    let q = le→parts false m e false 1 (pos 6) k in
    sized {u = 2 ^ 32} {a = 1} {b = 2 ^ 38} m e (omega arith) (omega arith)

pub lambda_in : (lambda : Float) → lambda_in_range lambda ≡ true → In false (2 ^ 32) 1 (2 ^ 38) lambda
lambda_in lambda e = let r = both (le smallest lambda) (le lambda largest) e in in_range lambda r.0 r.1

pub interval_in : {b : ℕ} {lambda : Float} → In false (2 ^ 32) 1 b lambda → In false 16 0 (2 ^ 36) (one ⊘ lambda)
unfolding of_bits
interval_in (sized zero e l h) = absurd (omega (arith, down_pos e, zero-mul (up e)))
interval_in (sized (suc n) e l h) =
    rw (div_fin binary64 false 1 (pos 0) false n e)
    (round_in 4 tt false 0 (2 ^ 36) (1 * 1 * down e) (suc n * up e * 1) tt (mul-pos (mul-pos (omega arith) (up_pos e)) (omega arith))
    (omega arith, omega arith))

-- "t_gap = max(1, ceil(1/lambda))"
pub t_gap_whole : (lambda : Float) → lambda_in_range lambda ≡ true → Period (2 ^ 32) (t_gap_of lambda)
t_gap_whole lambda e = whole_period (2 ^ 32) (omega arith) (omega arith) (up_to (2 ^ 32) (interval_in (lambda_in lambda e)))
