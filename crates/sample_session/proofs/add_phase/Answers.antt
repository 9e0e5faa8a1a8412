-- `add_phase` meets its contract. Assumes nothing.
use Rattle.std.proofs.Common.{arith}
use Rattle.text.specs.Laws.Pieces.{first, more, ended}
use Rattle.sample_session.specs.Sample.{reading_bytes}
use Rattle.sample_session.proofs.add_phase.Goals as goal

pub loop-i-init : goal.loop-i-init
loop-i-init c = first (reading_bytes c.args.p.now) c.args.text.now

pub loop-i-preserved : goal.loop-i-preserved
loop-i-preserved c = more (reading_bytes c.args.p.now) c.loop-i.i c.loop-i.invariant c.add_reading.ensures

pub returns : goal.returns
returns c = ended (reading_bytes c.args.p.now) (omega arith) c.loop-i.invariant
