-- `add_figure` meets its contract. Assumes nothing.
use Rattle.text.specs.Laws.Pieces.{both}
use Rattle.picture_grid.specs.Figure.{figure_of}
use Rattle.picture_grid.proofs.figure.add_figure.Goals as goal

pub returns-then-is_nan : goal.returns-then-is_nan
unfolding figure_of
returns-then-is_nan c = rw (← c.is_nan.ensures.value, c.if-is_nan.true) (search both)

pub returns-then-x : goal.returns-then-x
unfolding figure_of
returns-then-x c = rw (← c.is_nan.ensures.value, c.if-is_nan.false, c.if-x.true) c.add_sized.ensures

pub returns : goal.returns
unfolding figure_of
returns c = rw (← c.is_nan.ensures.value, c.if-is_nan.false, c.if-x.false) c.add_sized-2.ensures
