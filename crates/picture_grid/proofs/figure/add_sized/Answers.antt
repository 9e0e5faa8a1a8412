-- `add_sized` meets its contract. Assumes nothing.
use Rattle.std.proofs.Common.{ap}
use Rattle.text.specs.Laws.Pieces.{both, worded}
use Rattle.picture_grid.specs.Figure.{tenths}
use Rattle.picture_grid.proofs.figure.add_sized.Goals as goal

pub returns-then-size : goal.returns-then-size
returns-then-size c =
    let a = c.args in
    rw c.if-size.true (worded (ap (tenths a.width a.sign) c.rounded.ensures) c.add_tenths.ensures)

pub returns : goal.returns
returns c =
    let a = c.args in
    let size = worded (ap (tenths a.width a.sign) c.rounded-2.ensures) c.add_tenths-2.ensures in
    rw c.if-size.false (both c.add_byte.ensures size)
