-- Document 01: how a value fades, and when a cleanup is due, of both streams. Definitions only.
use Rattle.std.specs.Prelude.{ℕ, ◌%◌, Bool, false, cond, ◌==◌, from_bits, Float}
use Rattle.std.specs.Float.{binary64}
use Rattle.std.specs.Float.Ieee.{lt, to_unsigned}
use Rattle.float.specs.Rounded.{◌⊗◌, nought}
use Rattle.feature.specs.Fade.{fade_of}

-- a weight or a link's value, faded from last to t
abbrev pub faded_to : (lambda t value last : Float) → Float
faded_to lambda t value last = value ⊗ fade_of lambda t last

-- 2 to the power 63
abbrev pub ticks_most : Float
ticks_most = from_bits binary64 0x43e0_0000_0000_0000

-- the whole ticks of a time above 0 and below 2 to the power 63; of any other 0
unfoldable pub ticks_of : Float → ℕ
ticks_of x = cond (lt nought x) (cond (lt x ticks_most) (to_unsigned 64 x) 0) 0

-- "if t is a multiple of t_gap", or of tp
abbrev pub is_multiple : (t period : Float) → Bool
is_multiple t period = cond (ticks_of period == 0) false (ticks_of t % ticks_of period == 0)
