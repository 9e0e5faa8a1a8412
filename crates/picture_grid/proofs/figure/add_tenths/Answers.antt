-- `add_tenths` meets its contract. Assumes nothing.
use Rattle.text.specs.Laws.Pieces.{both}
use Rattle.picture_grid.proofs.figure.add_tenths.Goals as goal

pub returns : goal.returns
returns c = search both
