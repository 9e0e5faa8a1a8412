-- `write_centres` meets its contract. Assumes nothing.
use Rattle.std.proofs.Common.{arith}
use Rattle.readout.proofs.Centres.{Turn, turn_start, turn_step, turn_end}
use Rattle.readout.proofs.stats.write_centres.Goals.{At-loop-i}
use Rattle.readout.proofs.stats.write_centres.Goals as goal

turn : (c : goal.At-loop-i) → Turn c.args.width c.args.bodies.now c.args.out.now c.loop-i.out c.loop-i.i
turn c = record { wide = c.requires.wide; low = c.requires.room.0; room = c.requires.room.1; done = c.loop-i.invariant }

pub loop-i-init : goal.loop-i-init
loop-i-init c = let a = c.args in turn_start a.width a.bodies.now a.out.now

pub loop-i-preserved : goal.loop-i-preserved
loop-i-preserved c = turn_step (turn (goal.at.loop-i-preserved c).At-loop-i) c.loop-i-test.true _ _ _ (omega arith) c.copy_from_slice.ensures.after

pub returns : goal.returns
returns c = turn_end (turn (goal.at.returns c).At-loop-i) (omega arith)
