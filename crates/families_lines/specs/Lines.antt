-- Document 01, `families`: the lines that it prints, as ASCII codes. Definitions only.
use Rattle.std.specs.Prelude.{ℕ, List, [], ◌∷◌, ◌++◌, ℤ}
use Rattle.drift.specs.declared.DriftReport.{DriftReport}
use Rattle.model.specs.declared.micro.MicroId.{MicroId}
use Rattle.text.specs.Ascii.{ascii}
use Rattle.text.specs.Decimal.{decimal, integer}

-- "creation number, a space and label"
abbrev pub line_of : MicroId → ℤ → List ℕ
line_of id label = decimal id.0 ++ ascii " " ++ integer label ++ ascii "\n"

-- "one line per micro-cluster in list order"
unfoldable pub lines_of : List MicroId → List ℤ → List ℕ
unfolding decimal
lines_of [] labels = []
lines_of (id ∷ ids) [] = []
lines_of (id ∷ ids) (label ∷ labels) = line_of id label ++ lines_of ids labels

-- "then a last line with alarms and width, worded as below": alarms 0 window 2
abbrev pub last_line : DriftReport → List ℕ
last_line report = ascii "alarms " ++ decimal report.alarms ++ ascii " window " ++ decimal report.window ++ ascii "\n"
