-- `add_line_in` meets its contract. Assumes nothing.
use Rattle.std.proofs.Common.{ne_eqb}
use Rattle.text.specs.Laws.Pieces.{nothing}
use Rattle.picture_lines.proofs.words.add_line_in.Goals as goal

pub returns-else-row-mark : goal.returns-else-row-mark
returns-else-row-mark c = rw (ne_eqb _ _ c.if-row-mark.false) (nothing c.args.text.now)
