use Rattle.labels.proofs.Labelling.{Labelling}
use Rattle.labels.proofs.label.labels.Given as goal

abbrev pub invariant-loop-i : goal.invariant-loop-i
invariant-loop-i l = Labelling l.mask l.roots l.labels l.met.items l.i
