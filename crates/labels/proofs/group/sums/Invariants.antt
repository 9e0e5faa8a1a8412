use Rattle.std.proofs.Common.{length}
use Rattle.labels.proofs.Summing.{Summing}
use Rattle.labels.proofs.group.sums.Given as goal

abbrev pub invariant-loop-root : goal.invariant-loop-root
invariant-loop-root l = Summing l.roots l.weights l.sums (length l.yielded)
