-- `add_border` meets its contract. Assumes nothing.
use Rattle.text.specs.Laws.Pieces.{both}
use Rattle.picture_grid.proofs.grid.add_border.Goals as goal

pub returns : goal.returns
returns c = search both
