use Rattle.std.proofs.Common.{ℕ, length}
use Rattle.text.specs.Text.{Added, each}
use Rattle.picture_lines.specs.Row.{letter_of, row_in}
use Rattle.picture_lines.specs.Words.{lines_in}
use Rattle.picture_lines.proofs.words.add_families.Given as goal

abbrev pub invariant-loop-family : goal.invariant-loop-family
invariant-loop-family l = Added l.initial.text (each (λ (k : ℕ). lines_in (row_in l.rows) (length l.rows) (letter_of k)) l.family) l.text
