-- What a grid shows upwards: the lowest line's figure, the step to the next, in tenths, and the title. Definitions only.
use Rattle.std.specs.Prelude.{ℕ, List}
use Rattle.text.specs.Ascii.{ascii}
use Rattle.picture_grid.specs.declared.upward.Upward.{Upward}
use Rattle.picture_grid.specs.declared.upward.Upward.TheVariants.{BeatError, Amplitude}

-- from 0 to 3.6 ms, and from 150 to 330 degrees
abbrev pub low_of : Upward → ℕ
low_of BeatError = 0
low_of Amplitude = 1500

abbrev pub step_of : Upward → ℕ
step_of BeatError = 2
step_of Amplitude = 100

abbrev pub title_of : Upward → List ℕ
title_of BeatError = ascii "\nbeat error (ms)\n"
title_of Amplitude = ascii "\namplitude (deg)\n"
