-- Families in words. Definitions only.
use Rattle.std.specs.Prelude.{ℕ, cond, List, [], ◌∷◌, ◌++◌, eqb}
use Rattle.float.specs.Rounded.{◌⊗◌}
use Rattle.text.specs.Ascii.{ascii}
use Rattle.text.specs.Decimal.{decimal}
use Rattle.text.specs.Text.{each}
use Rattle.picture_lines.specs.declared.row.Row.{Row}
use Rattle.picture_grid.specs.Figure.{ten, figure_of}
use Rattle.picture_lines.specs.Row.{letter_of}

abbrev pub heading_of : (mark : ℕ) → List ℕ
heading_of mark = cond (eqb mark 46) (ascii "no family") (ascii "family " ++ mark ∷ [] ++ ascii " ")

-- rate in s/d, amplitude in degrees, beat error in tenths of a millisecond; the figures in tenths
unfoldable pub line_of : Row → List ℕ
line_of row =
    heading_of row.mark
    ++ ascii "  rate "
    ++ figure_of 3 43 (row.rate ⊗ ten)
    ++ ascii " s/d   amplitude "
    ++ figure_of 3 32 (row.amplitude ⊗ ten)
    ++ ascii " deg   beat error "
    ++ figure_of 1 32 row.beat_error
    ++ ascii " ms   weight "
    ++ figure_of 3 32 (row.weight ⊗ ten)
    ++ ascii "\n"

abbrev pub line_in : (mark : ℕ) → Row → List ℕ
line_in mark row = cond (eqb row.mark mark) (line_of row) []

-- the lines of those that have a mark, in list order
abbrev pub lines_in : (ℕ → Row) → (n mark : ℕ) → List ℕ
lines_in at n mark = each (λ (i : ℕ). line_in mark (at i)) n

abbrev pub alarm_of : ℕ → List ℕ
alarm_of alarms =
    cond (eqb alarms 0) (ascii "the drift alarm did not ring\n")
    (ascii "the drift alarm rang " ++ decimal alarms ++ cond (eqb alarms 1) (ascii " time\n") (ascii " times\n"))

-- family by family, then what is in none, then the alarm
abbrev pub words_of : (ℕ → Row) → (n alarms : ℕ) → List ℕ
words_of at n alarms = each (λ (k : ℕ). lines_in at n (letter_of k)) 53 ++ lines_in at n 46 ++ alarm_of alarms
