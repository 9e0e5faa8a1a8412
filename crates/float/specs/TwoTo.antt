-- Document 01: "Two to the y." Definitions only.
use Rattle.std.specs.Prelude.{ℕ, zero, suc, false, cond, pos, neg_ℤ, from_bits, Float}
use Rattle.std.specs.Float.{fin, binary64}
use Rattle.std.specs.Float.Ieee.{neg, lt}
use Rattle.float.specs.Rounded.{◌⊕◌, ◌⊖◌, ◌⊗◌, ◌⊘◌, nought, one, whole}
use Rattle.float.specs.Cut.{cut_of, wholes}

-- "L has bits 3FE62E42FEFA39EF (hexadecimal)"
abbrev pub L : Float
L = from_bits binary64 0x3fe6_2e42_fefa_39ef

-- "h becomes 1 + (z × h) / n"
unfoldable pub step : Float → ℕ → Float → Float
step z n h = one ⊕ z ⊗ h ⊘ whole n

-- "for n .. down to 1"
unfoldable pub steps : Float → ℕ → Float → Float
steps z zero h = h
steps z (suc n) h = steps z n (step z (suc n) h)

-- 2^−c
abbrev pub minus_power : ℕ → Float
minus_power c = fin false 1 (neg_ℤ (pos c))

-- "k below −1022 gives 0"
abbrev pub least : Float
least = neg (whole 1022)

-- "y not below 0 gives 1. Let k be y cut towards zero; k below −1022 gives 0.
-- z = (y − k) × L .. Start h at 1; for n from 20 down to 1 .. The answer is h × 2^k."
unfoldable pub two_to : Float → Float
two_to y =
    cond (lt y nought)
    (cond (lt (cut_of y) least) nought (steps ((y ⊖ cut_of y) ⊗ L) 20 one ⊗ minus_power (wholes (cut_of y))))
    one
