-- `horner` meets its contract. Assumes nothing.
use Rattle.std.proofs.Common.{◌≡◌, ◌-◌, ◌∙◌, arith}
use lib.Ieee.{of_bits}
use Rattle.float.specs.TwoTo.{steps, step}
use Rattle.float.proofs.Steps.{steps_next}
use Rattle.float.proofs.two_to.horner.Goals as goal

pub loop-n-preserved : goal.loop-n-preserved
unfolding of_bits step
loop-n-preserved c =
    let l = c.loop-n in steps_next c.args.z l.h (l.n - 1) (omega arith) ∙ l.invariant

pub returns : goal.returns
unfolding steps
returns c = let e : c.loop-n.n - 1 ≡ 0 = omega arith in rw e at c.loop-n.invariant
