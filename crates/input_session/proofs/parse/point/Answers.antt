-- `point` meets its contract. Assumes nothing.
use Rattle.std.proofs.Common.{refl, arith, rules}
use Rattle.input_session.proofs.Inputs.{read_start, read_step, read_end}
use Rattle.input_session.proofs.parse.point.Goals as goal

pub loop-i-init : goal.loop-i-init
loop-i-init c = let a = c.args in (refl, read_start a.bytes.now a.dim)

pub loop-i-preserved : goal.loop-i-preserved
loop-i-preserved c =
    let a = c.args in
    let l = c.loop-i in
    let v = c.double_at in
    let next = read_step a.bytes.now a.dim l.x l.i l.invariant.1 c.loop-i-test.true (omega arith) v.result v.ensures in
    (search rules, next)

pub returns : goal.returns
returns c =
    let a = c.args in
    let l = c.loop-i in
    read_end a.bytes.now a.dim l.x l.i l.invariant.1 (omega arith)
