-- `find` meets its contract. The loop's invariant: where it stands is some halving steps from the start (`Turn`).
-- The measure: the steps that are left. Assumes nothing.
use mathlib.Core.Path.{sym, ap, ◌∙◌}
use native.Mathlib.Omega.{arith}
use Rattle.union_find.specs.declared.forest.UnionFind.{UnionFind}
use Rattle.union_find.specs.Forest.{find_of}
use Rattle.union_find.specs.Inside.Told.{forest_by}
use Rattle.union_find.proofs.Finding.{turn_start, turn_up, turn_next, turn_end, turn_less, turn_few}
use Rattle.union_find.proofs.forest.UnionFind.find.Goals as goal

pub loop-self-init : goal.loop-self-init
loop-self-init c = turn_start (forest_by c.self.inside.parent c.self.inside.rank) c.self.invariant c.args.x c.requires.place

pub offset_bounds-self-inside-up : goal.offset_bounds-self-inside-up
offset_bounds-self-inside-up c = omega (arith, turn_up c.loop-self.invariant)

pub bounds-self-inside-up : goal.bounds-self-inside-up
bounds-self-inside-up c = turn_up c.loop-self.invariant

pub overflow_add-steps : goal.overflow_add-steps
overflow_add-steps c = omega (arith, turn_few c.loop-self.invariant)

pub loop-self-smaller : goal.loop-self-smaller
loop-self-smaller c = turn_less c.loop-self.invariant c.loop-self-test.true

pub loop-self-preserved : goal.loop-self-preserved
loop-self-preserved c = turn_next c.loop-self.invariant c.loop-self-test.true

pub returns-clause-found : goal.returns-clause-found
returns-clause-found c =
    sym (turn_end c.loop-self.invariant c.loop-self-test.false) ∙ ap (λ (u : UnionFind). find_of u.parent c.args.x) c.self.view_is
