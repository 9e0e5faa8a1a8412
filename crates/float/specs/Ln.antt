-- Document 01: "ln v, v at least 1 .. Infinity and NaN stay themselves. log2 v = (ln v) / L." Definitions only.
use Rattle.std.specs.Prelude.{ℕ, zero, suc, ◌+◌, ◌-◌, ◌*◌, false, cond, ◌&&◌, pos, Float}
use Rattle.std.specs.Float.{fin}
use Rattle.std.specs.Float.Ieee.{size, le}
use Rattle.float.specs.Rounded.{◌⊕◌, ◌⊖◌, ◌⊗◌, ◌⊘◌, nought, one, two, whole}
use Rattle.float.specs.Order.{is_finite}
use Rattle.float.specs.Cut.{wholes}
use Rattle.float.specs.TwoTo.{L}

-- "v = m × 2^e, 1 ≤ m < 2": e is one less than the binary digits of v's whole part
unfoldable pub exponent_of : Float → ℕ
exponent_of v = size (wholes v) - 1

-- 2^e
abbrev pub plus_power : ℕ → Float
plus_power e = fin false 1 (pos e)

-- "for k .. down to 0, h becomes h × q + 1/(2k+1)", from k = n − 1
unfoldable pub series : Float → ℕ → Float → Float
series q zero h = h
series q (suc k) h = series q k (h ⊗ q ⊕ one ⊘ whole (2 * k + 1))

-- "s = (m−1)/(m+1), q = s × s; start h at 0; for k from 20 down to 0 .. the answer is e × L + (2 × s) × h"
unfoldable pub ln_by : ℕ → Float → Float
ln_by e m =
    let s = (m ⊖ one) ⊘ (m ⊕ one) in
    whole e ⊗ L ⊕ two ⊗ s ⊗ series (s ⊗ s) 21 nought

-- below 1, where nothing is asked, v stays itself too
unfoldable pub ln_of : Float → Float
ln_of v = cond (le one v && is_finite v) (ln_by (exponent_of v) (v ⊘ plus_power (exponent_of v))) v

-- "log2 v = (ln v) / L"
unfoldable pub log2_of : Float → Float
log2_of v = ln_of v ⊘ L
