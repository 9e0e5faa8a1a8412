use Rattle.std.proofs.Common.{◌≡◌, ◌-◌}
use Rattle.float.specs.TwoTo.{steps}
use Rattle.float.specs.Rounded.{one}
use Rattle.float.proofs.two_to.horner.Given as goal

abbrev pub invariant-loop-n : goal.invariant-loop-n
invariant-loop-n l = steps l.z (l.n - 1) l.h ≡ steps l.z 20 one
