-- `DenStream::put` meets its contract. Assumes nothing.
use Prim.Native.Nat.{◌+◌, ◌<◌}
use mathlib.Core.Path.{ap, ◌∙◌}
use native.Mathlib.Omega.{arith}
use Rattle.model.specs.Limits.{micros_most}
use Rattle.denstream.specs.declared.stream.DenStream.{DenStream}
use Rattle.denstream.specs.View.{view}
use Rattle.denstream.proofs.Places.{Counted, cleared, potential_low, outlier_low, promotion_low, newborn_low}
use Rattle.denstream.proofs.Places.{to_potential, to_outlier, to_promotion, to_newborn}
use Rattle.denstream.proofs.stream.DenStream.put.Goals.{After-outliers_held-no, In-Newborn, In-Outlier, In-Potential, In-Promotion, Joined-placed}
use Rattle.denstream.proofs.stream.DenStream.put.Goals.{in-Newborn, in-Outlier, in-Potential, in-Promotion}
use Rattle.denstream.proofs.stream.DenStream.put.Goals as goal

counted : (c : goal.After-outliers_held-no) → Counted c.args.self.now c.args.placed c.potential_held-np.result c.outliers_held-no.result
counted c =
    record {
      potential_size = omega arith;
      outliers_size = omega arith;
      np_is = c.potential_held-np.ensures;
      no_is = c.outliers_held-no.ensures;
      ready = c.requires;
    }

-- ---- each way writes at a place that is there
potential_place : (c : goal.In-Potential) → c.in-Potential.place < micros_most
potential_place c = potential_low (counted (goal.at.In-Potential c).After-outliers_held-no) _ c.in-Potential.is

promotion_place : (c : goal.In-Promotion) → c.potential_held-np.result < micros_most
promotion_place c = promotion_low (counted (goal.at.In-Promotion c).After-outliers_held-no) _ c.in-Promotion.is

outlier_place : (c : goal.In-Outlier) → c.in-Outlier.place < micros_most
outlier_place c = outlier_low (counted (goal.at.In-Outlier c).After-outliers_held-no) _ c.in-Outlier.is

newborn_place : (c : goal.In-Newborn) → c.potential_held-np.result + c.outliers_held-no.result < micros_most
newborn_place c = newborn_low (counted (goal.at.In-Newborn c).After-outliers_held-no) c.in-Newborn.is

pub offset_bounds-self-place : goal.offset_bounds-self-place
offset_bounds-self-place c = omega (arith, potential_place (goal.at.offset_bounds-self-place c).In-Potential)

pub bounds-self-place : goal.bounds-self-place
bounds-self-place c = potential_place (goal.at.bounds-self-place c).In-Potential

pub bounds-self-np : goal.bounds-self-np
bounds-self-np c = promotion_place (goal.at.bounds-self-np c).In-Promotion

pub offset_bounds-self-place-in-Outlier : goal.offset_bounds-self-place-in-Outlier
offset_bounds-self-place-in-Outlier c = omega (arith, outlier_place (goal.at.offset_bounds-self-place-in-Outlier c).In-Outlier)

pub bounds-self-place-in-Outlier : goal.bounds-self-place-in-Outlier
bounds-self-place-in-Outlier c = outlier_place (goal.at.bounds-self-place-in-Outlier c).In-Outlier

pub bounds-self-no : goal.bounds-self-no
bounds-self-no c = omega (arith, newborn_place (goal.at.bounds-self-no c).In-Newborn)

-- ---- where the ways meet, the point is at its target
pub returns : goal.returns
returns c =
    let k = counted (goal.at.returns c).After-outliers_held-no in
    elim c.match-placed.branch [
      | in-Potential w ↦ ap (λ (v : DenStream). view (cleared v)) w.self-is ∙ to_potential k _ w.in-Potential.is
      | in-Promotion w ↦ ap (λ (v : DenStream). view (cleared v)) w.self-is
          ∙ to_promotion k _ w.in-Promotion.is w.without-self.new.pool _ w.without-self.result w.without-self.ensures.result_value w.without-self.ensures.counted
      | in-Outlier w ↦ ap (λ (v : DenStream). view (cleared v)) w.self-is ∙ to_outlier k _ w.in-Outlier.is
      | in-Newborn w ↦ ap (λ (v : DenStream). view (cleared v)) w.self-is ∙ to_newborn k w.in-Newborn.is
    ]
