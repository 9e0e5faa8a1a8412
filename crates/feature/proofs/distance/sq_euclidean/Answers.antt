-- `sq_euclidean` meets its contract. Assumes nothing.
use Rattle.std.proofs.Common.{rules, ◌∙◌}
use mathlib.Core.Logic.{inl, inr}
use Rattle.feature.specs.Distance.{sum_from}
use Rattle.feature.specs.Laws.Turns.{sum_none_left, sum_none_right}
use Rattle.feature.proofs.distance.sq_euclidean.Goals as goal

pub loop-x-preserved : goal.loop-x-preserved
unfolding sum_from
loop-x-preserved c = search rules

pub returns : goal.returns
returns c =
    elim c.in-None.ensures.steps [
      | inl h ↦ sum_none_left _ _ _ h.1.0 ∙ c.loop-x.invariant
      | inr h ↦ sum_none_right _ _ _ h.1.0 ∙ c.loop-x.invariant
    ]
