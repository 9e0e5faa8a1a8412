use Rattle.union_find.proofs.Joining.{Joining}
use Rattle.union_find.proofs.forest.joined.Given as goal

abbrev pub invariant-loop-a : goal.invariant-loop-a
invariant-loop-a l = Joining l.n l.pairs l.forest l.work.finds l.work.steps l.a-index
