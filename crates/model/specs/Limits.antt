-- The limits of documents 01 and 02, each once. Definitions only.
use Rattle.std.specs.Prelude.{ℕ, ◌-◌, ◌^◌, from_bits, Float}
use Rattle.std.specs.Float.{binary64}

-- "are fewer than 64 micro-clusters held"
abbrev pub micros_most : ℕ
micros_most = 64

-- "a link list of at most 2,016"
abbrev pub links_most : ℕ
links_most = 2016

-- "Is the clock below 65,535?"; document 02, item 5: "The clock and the count of drift values rise from 65,535 to 2^40 − 1". As a number and as a double
abbrev pub clock_most : ℕ
clock_most = 2 ^ 40 - 1

abbrev pub clock_limit : Float
clock_limit = from_bits binary64 0x426f_ffff_ffff_e000
