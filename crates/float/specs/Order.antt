-- Which doubles are finite, and the larger and the smaller of two. Definitions only.
use Rattle.std.specs.Prelude.{Bool, true, false, cond, is_nan, Float}
use Rattle.std.specs.Float.{nan, inf, fin}
use Rattle.std.specs.Float.Ieee.{lt}

-- neither NaN nor infinite
abbrev pub is_finite : Float → Bool
is_finite nan = false
is_finite (inf s) = false
is_finite (fin s m e) = true

-- "Maximum and minimum: a NaN loses to a number."
abbrev pub larger : Float → Float → Float
larger a b = cond (is_nan a) b (cond (lt a b) b a)

-- the smaller of two, likewise
abbrev pub smaller : Float → Float → Float
smaller a b = cond (is_nan a) b (cond (lt b a) b a)
