-- `add_heading` meets its contract. Assumes nothing.
use Rattle.std.proofs.Common.{ne_eqb}
use Rattle.text.specs.Laws.Pieces.{both}
use Rattle.picture_lines.proofs.words.add_heading.Goals as goal

pub returns : goal.returns
returns c = rw (ne_eqb _ _ c.if-mark-eq-WEAK.false) (search both)
