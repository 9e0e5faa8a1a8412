use Rattle.text.specs.Text.{Added}
use Rattle.picture_lines.specs.Row.{row_in}
use Rattle.picture_lines.specs.Words.{lines_in}
use Rattle.picture_lines.proofs.words.add_lines_in.Given as goal

abbrev pub invariant-loop-row : goal.invariant-loop-row
invariant-loop-row l = Added l.initial.text (lines_in (row_in l.rows) l.row-index l.mark) l.text
