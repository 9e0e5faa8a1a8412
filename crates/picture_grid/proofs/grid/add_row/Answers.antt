-- `add_row` meets its contract. Assumes nothing.
use Rattle.std.proofs.Common.{◌≡◌, ◌+◌, ◌*◌, ◌^◌, ◌<◌, ap}
use Rattle.text.specs.Text.{Added}
use Rattle.text.specs.Laws.Pieces.{both, worded}
use Rattle.picture_grid.specs.Figure.{tenths}
use Rattle.picture_grid.specs.Upward.{low_of, step_of}
use Rattle.picture_grid.proofs.Lines.{lines_fit}
use Rattle.picture_grid.proofs.grid.add_row.Goals.{After-add_tenths, After-step}
use Rattle.picture_grid.proofs.grid.add_row.Goals as goal

-- the figure of a line fits
figure : (c : goal.After-step) →
    (c.args.row * c.step.result < 2 ^ 64) × (c.low.result + c.args.row * c.step.result < 2 ^ 64)
figure c = lines_fit c.args.up c.args.row _ _ c.requires c.low.ensures c.step.ensures

pub overflow_mul-row : goal.overflow_mul-row
overflow_mul-row c = record { fits = (figure c).0 }

pub overflow_add-low : goal.overflow_add-low
overflow_add-low c = record { fits = (figure c).1 }

-- the figure before the row's line
named : (c : goal.After-add_tenths) →
    let a = c.args in
    Added a.text.now (tenths 3 32 (low_of a.up + a.row * step_of a.up)) c.add_tenths.new.text
named c =
    let a = c.args in
    let low = c.low in
    let step = c.step in
    let e : low.result + a.row * step.result ≡ low_of a.up + a.row * step_of a.up = rw (low.ensures, step.ensures) in
    worded (ap (tenths 3 32) e) c.add_tenths.ensures

pub returns : goal.returns
returns c =
    let figured = named (goal.at.returns c).After-add_tenths in
    search both
