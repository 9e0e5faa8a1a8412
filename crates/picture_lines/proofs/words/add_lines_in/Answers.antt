-- `add_lines_in` meets its contract. Assumes nothing.
use Rattle.std.proofs.Common.{ℕ, List, arith}
use Rattle.text.specs.Laws.Pieces.{first, more, ended}
use Rattle.picture_lines.specs.declared.row.Row.{Row}
use Rattle.picture_lines.specs.Row.{row_in}
use Rattle.picture_lines.specs.Words.{line_in}
use Rattle.picture_lines.proofs.words.add_lines_in.Goals as goal

-- the line of a micro-cluster, if it has the mark
abbrev line_at : List Row → (mark i : ℕ) → List ℕ
line_at rows mark i = line_in mark (row_in rows i)

pub loop-row-init : goal.loop-row-init
loop-row-init c = first (line_at c.args.rows.now c.args.mark) c.args.text.now

pub loop-row-preserved : goal.loop-row-preserved
loop-row-preserved c = more (line_at c.args.rows.now c.args.mark) c.loop-row.row-index c.loop-row.invariant c.add_line_in.ensures

pub returns : goal.returns
returns c = ended (line_at c.args.rows.now c.args.mark) (omega arith) c.loop-row.invariant
