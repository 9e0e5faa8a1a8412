-- `joined` meets its contract. The loop's invariant: with the pairs left it is the forest, the finds and the steps of all (`Joining`). Assumes nothing.
use Prim.Native.Nat.{◌+◌}
use native.Mathlib.Omega.{arith}
use lib.Seq.{drop-cons}
use lib.ListN.{drop_of_length-le}
use Rattle.union_find.proofs.Joining.{Joining, joining_start, joining_next, joining_few, joining_end}
use Rattle.union_find.proofs.forest.joined.Goals.{After-join}
use Rattle.union_find.proofs.forest.joined.Goals as goal

pub loop-a-init : goal.loop-a-init
loop-a-init c = joining_start c.args.n c.args.pairs.now c.new-forest.result c.new-forest.ensures

-- after a join
next : (c : goal.After-join) →
    let l = c.loop-a in
    let made = c.join.result in
    Joining c.args.n c.args.pairs.now c.join.new.self (l.work.finds + made.finds) (l.work.steps + made.steps) (l.a-index + 1)
next c =
    let a = c.args in
    let l = c.loop-a in
    joining_next a.n c.requires a.pairs.now l.forest l.work.finds l.work.steps l.a-index l.invariant _
    (drop-cons a.pairs.now l.a-index (0, 0) (omega arith)) _ c.join.result c.join.ensures.after c.join.ensures.work

pub add-requires : goal.add-requires
add-requires c =
    let few = joining_few c.args.n c.requires c.args.pairs.now _ _ _ _ (next (goal.at.add-requires c).After-join) in
    (omega arith, omega arith)

pub loop-a-preserved : goal.loop-a-preserved
loop-a-preserved c = rw c.add.ensures (next (goal.at.loop-a-preserved c).After-join)

pub returns : goal.returns
returns c =
    let a = c.args in
    let l = c.loop-a in
    joining_end a.n c.requires a.pairs.now l.forest l.work.finds l.work.steps l.a-index l.invariant
    (drop_of_length-le a.pairs.now (omega arith))
