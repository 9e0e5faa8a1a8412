use Rattle.std.proofs.Common.{◌≡◌}
use Rattle.feature.specs.Distance.{sum_from, sq_dist}
use Rattle.feature.proofs.distance.sq_euclidean.Given as goal

abbrev pub invariant-loop-x : goal.invariant-loop-x
invariant-loop-x l = sum_from l.s l.x-iterator.a.rest.now l.x-iterator.b.rest.now ≡ sq_dist l.a l.b
