-- What the loop of `push_bucket` keeps: the walk over the arrays.
use Rattle.adwin.proofs.Walk.{Carrying}
use Rattle.adwin.proofs.Adwin.push_bucket.Given as goal

abbrev pub invariant-loop-i : goal.invariant-loop-i
invariant-loop-i l = Carrying l.initial.self l.n l.self l.i l.k
