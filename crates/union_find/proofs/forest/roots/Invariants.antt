use Rattle.union_find.proofs.Seeking.{Seeking}
use Rattle.union_find.proofs.forest.roots.Given as goal

abbrev pub invariant-loop-i : goal.invariant-loop-i
invariant-loop-i l = Seeking l.sought l.pairs l.initial.forest l.forest l.roots l.work.finds l.work.steps l.i
