-- The figures of the window. Document 01, Drift: "The cap 6, smallest side 5 and check interval 32 belong to the window." Definitions only.
use Rattle.std.specs.Prelude.{ℕ, ◌-◌, ◌^◌, from_bits, Float}
use Rattle.std.specs.Float.{binary64}

-- "The cap 6": the most buckets of one class
abbrev pub cap : ℕ
cap = 6

-- "smallest side 5", as a double
abbrev pub side : Float
side = from_bits binary64 0x4014_0000_0000_0000

-- "check interval 32"
abbrev pub interval : ℕ
interval = 32

-- Document 01, Questions: "have fewer than 65,535 finite values been taken?"; document 02, item 5: "rise from 65,535 to 2^40 − 1"
abbrev pub limit : ℕ
limit = 2 ^ 40 - 1

-- No class is higher: a bucket of class 40 would stand for more values than are taken (`classes` of `Told`).
abbrev pub class_most : ℕ
class_most = 39

-- The places for buckets. No window that started empty fills them (`never_full` of `Told`).
abbrev pub places : ℕ
places = 225

-- `Adwin::new` "clamps delta to between 2^−1022 and 1 − 2^−52"
abbrev pub least : Float
least = from_bits binary64 0x0010_0000_0000_0000

-- and its upper end, 1 − 2^−52
abbrev pub most : Float
most = from_bits binary64 0x3fef_ffff_ffff_fffe
