-- A made-up session of readings: settings, phases, scatter. Definitions only.
use Rattle.std.specs.Prelude.{ℕ, ◌*◌, ◌/◌, ◌%◌, cond, List, [], ◌∷◌, ◌++◌, Float}
use Rattle.std.specs.Float.{binary64}
use Rattle.std.specs.Float.Ieee.{of_bits, to_bits, is_nan}
use Rattle.float.specs.Rounded.{◌⊕◌, ◌⊖◌, ◌⊗◌, ◌⊘◌, whole}
use Rattle.text.specs.Text.{each}
use Rattle.sample_session.specs.declared.Phase.{Phase}

-- 0.5, 8 and 65,536
abbrev pub half : Float
half = of_bits binary64 0x3fe0_0000_0000_0000

abbrev pub eight : Float
eight = of_bits binary64 0x4020_0000_0000_0000

abbrev pub parts : Float
parts = of_bits binary64 0x40f0_0000_0000_0000

abbrev pub phase_of : (count gain loss amplitude beat_error spread walk : ℕ) → Phase
phase_of count gain loss amplitude beat_error spread walk =
    record { count = count; gain = gain; loss = loss; amplitude = amplitude; beat_error = beat_error; spread = spread; walk = walk }

-- a word's 8 bytes, the one of the least weight first
unfoldable pub word_bytes : ℕ → List ℕ
word_bytes w =
    w % 256
    ∷ w / 256 % 256
    ∷ w / 65536 % 256
    ∷ w / 16777216 % 256
    ∷ w / 4294967296 % 256
    ∷ w / 1099511627776 % 256
    ∷ w / 281474976710656 % 256
    ∷ w / 72057594037927936 % 256
    ∷ []

abbrev pub double_bytes : Float → List ℕ
double_bytes x = word_bytes (cond (is_nan x) 0 (to_bits binary64 x))

-- the scatter: the fraction of i × m parts of 65,536, less a half
abbrev pub unit : (i m : ℕ) → Float
unit i m = whole (i * m % 65536) ⊘ parts ⊖ half

abbrev pub walked : Phase → ℕ → Float
walked p i = whole p.walk ⊗ whole i ⊘ eight

-- rate in s/d, amplitude in degrees, beat error in tenths of a millisecond
abbrev pub reading_bytes : Phase → ℕ → List ℕ
reading_bytes p i =
    double_bytes (whole p.gain ⊖ whole p.loss ⊕ whole p.spread ⊗ unit i 53685 ⊕ walked p i)
    ++ double_bytes (whole p.amplitude ⊕ whole p.spread ⊗ unit i 43977 ⊖ walked p i)
    ++ double_bytes (whole p.beat_error ⊕ whole p.spread ⊗ unit i 36025)

abbrev pub phase_bytes : Phase → List ℕ
phase_bytes p = each (reading_bytes p) p.count

-- dim 3, and r 10, lambda 2^−9, alpha 0.25, min_weight 6 by their bits
abbrev pub settings_bytes : List ℕ
settings_bytes =
    word_bytes 3
    ++ word_bytes 0x4024_0000_0000_0000
    ++ word_bytes 0x3f60_0000_0000_0000
    ++ word_bytes 0x3fd0_0000_0000_0000
    ++ word_bytes 0x4018_0000_0000_0000

-- a sound movement; a worn kind at two rates and between them; another worn kind; two strays; the sound one, unsteady, drifts
unfoldable pub sample_bytes : List ℕ
sample_bytes =
    settings_bytes
    ++ phase_bytes (phase_of 96 4 0 285 2 2 0)
    ++ phase_bytes (phase_of 32 0 28 215 15 2 0)
    ++ phase_bytes (phase_of 32 0 16 215 15 2 0)
    ++ phase_bytes (phase_of 32 0 22 215 15 2 0)
    ++ phase_bytes (phase_of 64 35 0 190 30 2 0)
    ++ phase_bytes (phase_of 1 0 44 225 9 0 0)
    ++ phase_bytes (phase_of 1 18 0 200 24 0 0)
    ++ phase_bytes (phase_of 96 4 0 285 2 8 3)
