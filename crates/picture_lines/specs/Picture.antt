-- Words and grids of n micro-clusters. Definitions only.
use Rattle.std.specs.Prelude.{ℕ, cond, List, ◌++◌, eqb, ℤ, Float}
use Rattle.text.specs.Ascii.{ascii}
use Rattle.picture_grid.specs.declared.upward.Upward.TheVariants.{BeatError, Amplitude}
use Rattle.picture_grid.specs.Grid.{grid_text}
use Rattle.picture_lines.specs.declared.row.Row.{Row}
use Rattle.picture_lines.specs.Row.{row_at}
use Rattle.picture_lines.specs.Words.{alarm_of, words_of}
use Rattle.picture_lines.specs.Plot.{plot_of}

abbrev pub legend : List ℕ
legend = ascii "a letter is a family, a dot is in none; a mark in the frame lies outside it\n"

abbrev pub held_text : (ℕ → Row) → (n alarms : ℕ) → List ℕ
held_text at n alarms =
    words_of at n alarms ++ grid_text BeatError (plot_of BeatError at n) ++ grid_text Amplitude (plot_of Amplitude at n) ++ legend

-- without a micro-cluster there is nothing to show but the alarm
abbrev pub page_of : (n : ℕ) → (centres weights : List Float) → (labels : List ℤ) → (alarms : ℕ) → List ℕ
page_of n centres weights labels alarms =
    cond (eqb n 0) (ascii "no reading is held\n" ++ alarm_of alarms) (held_text (row_at centres weights labels) n alarms)
