-- `double_of` meets its contract. Assumes nothing.
use Prim.Native.Nat.{ℕ, ◌*◌, ◌%◌, ◌^◌, ◌<◌, ◌≤◌}
use native.Mathlib.Nat.{not-le_of_lt}
use mathlib.Core.Path.{◌≡◌, refl, sym, ◌∙◌, subst}
use mathlib.Core.Bool.{not}
use lib.Dec.{T, ltb, ltb→lt, lt→ltb, not_T}
use lib.Ieee.{Float, nan, inf, fin, binary64, is_nan, of_bits, nan_bits}
use lib.Ieee.Bits.{nan_bits_is, nan_bits_above}
use Rattle.words.proofs.word.double_of.Goals as goal

is_nan_lem : (x : Float) → T (is_nan x) → x ≡ nan
unfolding is_nan
is_nan_lem nan t = refl
is_nan_lem (inf s) t = absurd t
is_nan_lem (fin s m e) t = absurd t

no_nan : (n : ℕ) → n % 2 ^ 63 ≤ 2047 * 2 ^ 52 → T (not (nan_bits binary64 n))
no_nan n h = rw (nan_bits_above binary64 n) (not_T (ltb (2047 * 2 ^ 52) (n % 2 ^ 63)) (λ t. not-le_of_lt (ltb→lt (2047 * 2 ^ 52) (n % 2 ^ 63) t) h))

a_nan : (n : ℕ) → 2047 * 2 ^ 52 < n % 2 ^ 63 → of_bits binary64 n ≡ nan
a_nan n h = is_nan_lem (of_bits binary64 n) (subst T (sym (nan_bits_above binary64 n) ∙ nan_bits_is binary64 n) (lt→ltb (2047 * 2 ^ 52) (n % 2 ^ 63) h))

pub returns-then-word-gt9218868437227405312 : goal.returns-then-word-gt9218868437227405312
unfolding of_bits
returns-then-word-gt9218868437227405312 c = sym (a_nan c.args.word c.if-word-gt9218868437227405312.true)

pub float_from_bits-result : goal.float_from_bits-result
float_from_bits-result c = no_nan c.args.word c.if-word-gt9218868437227405312.false
