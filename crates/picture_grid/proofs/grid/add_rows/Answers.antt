-- `add_rows` meets its contract. Assumes nothing.
use Rattle.std.proofs.Common.{◌≡◌, ℕ, ◌+◌, ◌-◌, ap, arith}
use Rattle.text.specs.Laws.Pieces.{first, more, ended, worded}
use Rattle.picture_grid.specs.Grid.{row_text}
use Rattle.picture_grid.proofs.grid.add_rows.Goals as goal

pub loop-row-init : goal.loop-row-init
loop-row-init c = first (λ (k : ℕ). row_text c.args.up c.args.cells.now (18 - k)) c.args.text.now

pub loop-row-preserved : goal.loop-row-preserved
loop-row-preserved c =
    let f = λ (k : ℕ). row_text c.args.up c.args.cells.now (18 - k) in
    let at : c.loop-row.row - 1 ≡ 18 - (19 - c.loop-row.row) = omega arith in
    let next : 19 - c.loop-row.row + 1 ≡ 19 - (c.loop-row.row - 1) = omega arith in
    ended f next (more f (19 - c.loop-row.row) c.loop-row.invariant (worded (ap (row_text c.args.up c.args.cells.now) at) c.add_row.ensures))

pub returns : goal.returns
returns c =
    let all : 19 - c.loop-row.row ≡ 19 = omega arith in
    ended (λ (k : ℕ). row_text c.args.up c.args.cells.now (18 - k)) all c.loop-row.invariant
