-- A double's text: "16 lower-case hexadecimal digits of its bits, every NaN is `nan`". Definition only.
use Rattle.std.specs.Prelude.{ℕ, cond, List, [], ◌∷◌, Float}
use Rattle.std.specs.Float.{binary64}
use Rattle.std.specs.Float.Ieee.{is_nan, to_bits}
use Rattle.io.specs.Digits.{last_digits}

abbrev pub double_text : Float → List ℕ
double_text x = cond (is_nan x) (110 ∷ 97 ∷ 110 ∷ []) (last_digits 16 16 (to_bits binary64 x))
