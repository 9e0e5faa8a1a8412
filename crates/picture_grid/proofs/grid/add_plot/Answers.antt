-- `add_plot` meets its contract. Assumes nothing.
use Rattle.text.specs.Laws.Pieces.{both, worded}
use Rattle.picture_grid.specs.Grid.{grid_text}
use Rattle.picture_grid.proofs.grid.add_plot.Goals as goal

pub returns : goal.returns
unfolding grid_text
returns c =
    let titled = worded c.title.ensures c.add.ensures in
    search both depth 7
