-- The bits of a power of two: the biased exponent is the bias and the power, from 1 to 2046, and the digits are 0. Assumes nothing.
use Rattle.std.proofs.Common.{◌≡◌, ℕ, zero, suc, ◌+◌, ◌-◌, ◌*◌, ◌/◌, ◌%◌, ◌^◌, ◌<◌, ◌≤◌, Bool, true, false, cond, not, T, eqb, leb, ℤ, pos, neg_ℤ, sym, ap, ◌∙◌, subst, not-le_of_lt, arith, le→leb, eqb→eq, leb→le}
use lib.Dec.{not_T}
use lib.Ieee.{fin, inf, binary64, minus, of_fields, of_bits, is_nan, nan_bits, odd}
use lib.Ieee.Bits.{is_true, is_false, nan_bits_is}
use Rattle.float.specs.Binary64.{bias, digits}

field : (x : ℕ) → x ≤ 2045 → of_fields binary64 false (suc x) 0 ≡ fin false 1 (minus (x + 52) 1074)
unfolding of_fields
field x h =
    ap (λ (b : Bool). cond b (inf false) (odd 53 false (2 ^ digits) x 1074))
    (is_false (eqb (suc x) 2047) (not_T (eqb (suc x) 2047) (λ t. let e : suc x ≡ 2047 = eqb→eq (suc x) 2047 t in omega arith)))

low_enough : (b : ℕ) → b < 0x8000_0000_0000_0000 → leb 0x8000_0000_0000_0000 b ≡ false
low_enough b h = is_false (leb 0x8000_0000_0000_0000 b) (not_T (leb 0x8000_0000_0000_0000 b) (λ t. not-le_of_lt h (leb→le 0x8000_0000_0000_0000 b t)))

bits : (x b : ℕ) → x ≤ 2045 → b ≡ suc x * 2 ^ digits → of_bits binary64 b ≡ fin false 1 (minus (x + 52) 1074)
unfolding of_bits
bits x b h e =
    let l : leb 0x8000_0000_0000_0000 b ≡ false = low_enough b (omega arith) in
    let f : b % 0x8000_0000_0000_0000 / 2 ^ digits ≡ suc x = omega arith in
    let d : b % 2 ^ digits ≡ 0 = omega arith in
    simp (l, f, d) (field x h)

no_nan : (b : ℕ) (e : ℤ) → of_bits binary64 b ≡ fin false 1 e → T (not (nan_bits binary64 b))
unfolding is_nan
no_nan b e p = subst (λ (t : Bool). T (not t)) (sym (nan_bits_is binary64 b ∙ ap is_nan p)) tt

-- ---- 2 ^ -c
down_exponent : (x c : ℕ) → x + c ≡ 1022 → minus (x + 52) 1074 ≡ neg_ℤ (pos c)
down_exponent x zero e = let z : x ≡ 1022 = omega arith in rw z
down_exponent x (suc c) e =
    let l : leb 1074 (x + 52) ≡ false = is_false (leb 1074 (x + 52))
    (not_T (leb 1074 (x + 52)) (λ t. let k : 1074 ≤ x + 52 = leb→le 1074 (x + 52) t in omega arith)) in
    let k : 1074 - suc (x + 52) ≡ c = omega arith in
    simp (l, k)

-- the bits of 2^−c
pub power_bits : (c : ℕ) → c ≤ 1022 → of_bits binary64 ((bias - c) * 2 ^ digits) ≡ fin false 1 (neg_ℤ (pos c))
power_bits c h = bits (1022 - c) ((bias - c) * 2 ^ digits) (omega arith) (omega arith) ∙ ap (fin false 1) (down_exponent (1022 - c) c (omega arith))

-- they are no NaN
pub power_no_nan : (c : ℕ) → c ≤ 1022 → T (not (nan_bits binary64 ((bias - c) * 2 ^ digits)))
power_no_nan c h = no_nan ((bias - c) * 2 ^ digits) (neg_ℤ (pos c)) (power_bits c h)

-- ---- 2 ^ e
up_exponent : (e : ℕ) → minus (1022 + e + 52) 1074 ≡ pos e
up_exponent e =
    let l : leb 1074 (1022 + e + 52) ≡ true = is_true (leb 1074 (1022 + e + 52)) (le→leb 1074 (1022 + e + 52) (omega arith)) in
    let k : 1022 + e + 52 - 1074 ≡ e = omega arith in
    simp (l, k)

-- the bits of 2^e
pub power_up_bits : (e : ℕ) → e ≤ 1023 → of_bits binary64 ((bias + e) * 2 ^ digits) ≡ fin false 1 (pos e)
power_up_bits e h = bits (1022 + e) ((bias + e) * 2 ^ digits) (omega arith) (omega arith) ∙ ap (fin false 1) (up_exponent e)

-- they are no NaN
pub power_up_no_nan : (e : ℕ) → e ≤ 1023 → T (not (nan_bits binary64 ((bias + e) * 2 ^ digits)))
power_up_no_nan e h = no_nan ((bias + e) * 2 ^ digits) (pos e) (power_up_bits e h)
