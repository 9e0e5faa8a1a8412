-- IEEE 754's binary64: what the bits of a double with the sign plus tell. Definitions only.
use Rattle.std.specs.Prelude.{ℕ, ◌+◌, ◌/◌, ◌%◌, ◌^◌, to_bits, Float}
use Rattle.std.specs.Float.{binary64}

-- what is added to an exponent to keep it as bits
abbrev pub bias : ℕ
bias = 1023

-- how many binary digits are kept below the leading one
abbrev pub digits : ℕ
digits = 52

-- the biased exponent: the exponent and the bias; 0 for zero and the subnormals, 2047 for infinity
abbrev pub biased : Float → ℕ
biased x = to_bits binary64 x / 2 ^ digits

-- the leading one and the digits that are kept, as one number
abbrev pub significand : Float → ℕ
significand x = 2 ^ digits + to_bits binary64 x % 2 ^ digits
