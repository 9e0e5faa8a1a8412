-- `drawn` meets its contract. Assumes nothing.
use Rattle.std.proofs.Common.{eq-eqb, ne_eqb, arith}
use Rattle.text.specs.Laws.Pieces.{both, worded}
use Rattle.picture_lines.specs.Laws.Rows.{held_rows}
use Rattle.picture_lines.proofs.drawn.Goals as goal

pub returns-then-n-eq0 : goal.returns-then-n-eq0
returns-then-n-eq0 c = rw (← c.min-n.ensures, eq-eqb _ _ c.if-n-eq0.true) (search both)

pub returns : goal.returns
returns c =
    let a = c.args in
    let rows = held_rows a.centres.now a.weights.now a.labels.now c.rows_of-all.result c.min-n.result a.alarms (omega arith) c.rows_of-all.ensures in
    let page = both (both (both c.add_words.ensures c.add_grid.ensures) c.add_grid-2.ensures) c.add-2.ensures in
    rw (← c.min-n.ensures, ne_eqb _ _ c.if-n-eq0.false) (worded rows page)
