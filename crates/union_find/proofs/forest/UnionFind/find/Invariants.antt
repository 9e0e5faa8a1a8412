use Rattle.union_find.specs.Forest.{find_of}
use Rattle.union_find.specs.Inside.Told.{forest_by}
use Rattle.union_find.proofs.Finding.{Turn}
use Rattle.union_find.proofs.forest.UnionFind.find.Given as goal

abbrev pub invariant-loop-self : goal.invariant-loop-self
invariant-loop-self l = Turn (forest_by l.initial.self-inside.parent l.initial.self-inside.rank) l.x (forest_by l.self-inside.parent l.self-inside.rank) l.at l.steps

abbrev pub decreases-loop-self : goal.decreases-loop-self
decreases-loop-self l = (find_of l.self-inside.parent l.at).steps
