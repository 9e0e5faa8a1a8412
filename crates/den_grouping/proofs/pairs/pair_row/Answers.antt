-- `pair_row` meets its contract. The loop's invariant: the pairs noted, and those of the places left, are the row. Assumes nothing.
use mathlib.Core.Path.{ap}
use mathlib.Core.List.{◌++◌}
use native.Mathlib.Omega.{arith}
use lib.ListN.{length-append}
use Rattle.den_grouping.proofs.Rows.{row_start, row_room, row_close, row_far, row_end}
use Rattle.den_grouping.proofs.pairs.pair_row.Goals.{then-sq_euclidean-eps2, else-sq_euclidean-eps2}
use Rattle.den_grouping.proofs.pairs.pair_row.Goals as goal

pub loop-j-init : goal.loop-j-init
loop-j-init c =
    let a = c.args in
    ap (λ r. a.pairs.now.items ++ r) (row_start a.eps2 a.i _ a.dim a.rest.now)

-- a close pair has a place
pub push-requires : goal.push-requires
push-requires c =
    let a = c.args in
    let l = c.loop-j in
    let v = c.sq_euclidean in
    let room = row_room a.eps2 a.i _ a.dim a.rest.now _ l.pairs.items l.j l.invariant _ c.loop-j-test.true v.result v.ensures c.if-sq_euclidean-eps2.true in
    (omega arith, omega (arith, room, c.requires.room, length-append a.pairs.now.items))

pub loop-j-preserved : goal.loop-j-preserved
loop-j-preserved c =
    let a = c.args in
    let l = c.loop-j in
    let v = c.sq_euclidean in
    let h = c.loop-j-test.true in
    elim c.if-sq_euclidean-eps2.branch [
      | then-sq_euclidean-eps2 w ↦ rw (w.pairs-is, w.push.ensures.items)
          (row_close a.eps2 a.i _ a.dim a.rest.now _ l.pairs.items l.j l.invariant _ h v.result v.ensures w.if-sq_euclidean-eps2.true)
      | else-sq_euclidean-eps2 w ↦ rw (w.pairs-is)
          (row_far a.eps2 a.i _ a.dim a.rest.now _ l.pairs.items l.j l.invariant _ h v.result v.ensures w.if-sq_euclidean-eps2.false)
    ]

pub returns : goal.returns
returns c =
    let a = c.args in
    let l = c.loop-j in
    row_end a.eps2 a.i _ a.dim a.rest.now _ l.pairs.items l.j l.invariant c.loop-j-test.false
