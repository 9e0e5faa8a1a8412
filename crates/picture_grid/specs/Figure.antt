-- A figure as text. Definitions only.
use Rattle.std.specs.Prelude.{ℕ, ◌/◌, ◌%◌, cond, List, [], ◌∷◌, ◌++◌, from_bits, is_nan, Float}
use Rattle.std.specs.Float.{binary64}
use Rattle.std.specs.Float.Ieee.{lt, neg, to_unsigned}
use Rattle.float.specs.Rounded.{◌⊕◌, nought}
use Rattle.text.specs.Ascii.{ascii}
use Rattle.text.specs.Text.{blanks}
use Rattle.text.specs.Decimal.{decimal, right}

-- 0.5, 10 and 100,000
abbrev pub half : Float
half = from_bits binary64 0x3fe0_0000_0000_0000

abbrev pub ten : Float
ten = from_bits binary64 0x4024_0000_0000_0000

abbrev pub limit : Float
limit = from_bits binary64 0x40f8_6a00_0000_0000

-- the nearest whole number, upwards from a half; below 0 and a NaN 0, and no more than 99,999
unfoldable pub rounded_of : Float → ℕ
rounded_of x = cond (lt nought (x ⊕ half)) (cond (lt (x ⊕ half) limit) (to_unsigned 64 (x ⊕ half)) 99999) 0

-- a number of tenths, with one decimal
abbrev pub tenths : (width sign n : ℕ) → List ℕ
tenths width sign n = right width sign (n / 10) ++ ascii "." ++ decimal (n % 10)

-- a size in tenths with its sign; where it is more than is shown, another sign stands in front
abbrev pub sized : (width sign beyond : ℕ) → Float → List ℕ
sized width sign beyond size = cond (lt (size ⊕ half) limit) [] (beyond ∷ []) ++ tenths width sign (rounded_of size)

-- a figure in tenths: `nan`, or - and what is below 0 (codes 45 and 60, <), or the sign given and what is not (62, >)
unfoldable pub figure_of : (width plus : ℕ) → Float → List ℕ
figure_of width plus x =
    cond (is_nan x) (blanks width ++ ascii "nan") (cond (lt x nought) (sized width 45 60 (neg x)) (sized width plus 62 x))
