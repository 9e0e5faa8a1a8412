-- `close_pairs` meets its contract. The loop's invariant: the pairs noted, and the rows left, are all. Assumes nothing.
use Prim.Native.Nat.{◌+◌}
use mathlib.Core.Path.{ap}
use mathlib.Core.List.{◌++◌}
use Rattle.std.proofs.lemmas.List.{take_rest}
use Rattle.den_grouping.proofs.Rows.{rows, pair_room, pair_next, pair_end}
use Rattle.den_grouping.proofs.pairs.close_pairs.Goals as goal

pub loop-i-init : goal.loop-i-init
loop-i-init c = ap (λ ps. ps ++ rows c.args.eps2 c.args.dim c.args.pool.now 0) c.new-pairs.ensures

pub pair_row-requires-clause-room : goal.pair_row-requires-clause-room
pair_row-requires-clause-room c =
    let a = c.args in
    let l = c.loop-i in
    rw (take_rest a.pool.now (l.i + 1)) (pair_room a.eps2 a.dim a.pool.now l.pairs.items l.i l.invariant _ c.loop-i-test.true c.requires.few.0)

pub loop-i-preserved : goal.loop-i-preserved
loop-i-preserved c =
    let a = c.args in
    let l = c.loop-i in
    rw (c.pair_row.ensures, take_rest a.pool.now (l.i + 1)) (pair_next a.eps2 a.dim a.pool.now l.pairs.items l.i l.invariant _ c.loop-i-test.true)

pub returns : goal.returns
returns c =
    let a = c.args in
    let l = c.loop-i in
    pair_end a.eps2 a.dim a.pool.now l.pairs.items l.i l.invariant c.loop-i-test.false
