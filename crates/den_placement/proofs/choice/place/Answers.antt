-- `place` meets its contract. Assumes nothing.
use Rattle.std.specs.Prelude.{◌≡◌, min, length}
use Rattle.std.proofs.Common.{ap, ◌∙◌}
use Rattle.den_pool.specs.Held.{size_of}
use Rattle.den_placement.proofs.Choices.{placed_potential, placed_outlier, placed_newborn, placed_nowhere}
use Rattle.den_placement.proofs.choice.place.Goals.{After-min-2}
use Rattle.den_placement.proofs.choice.place.Goals as goal

-- how many coordinates are looked at
size : (c : goal.After-min-2) → c.min-2.result ≡ size_of c.args.params.now c.args.x.now
size c = c.min-2.ensures ∙ ap (min (length c.args.x.now)) c.min.ensures

pub returns-in-Ok : goal.returns-in-Ok
returns-in-Ok c =
    let a = c.args in
    placed_potential a.params.now a.t a.x.now a.potential.now a.outliers.now _ (size (goal.at.returns-in-Ok c).After-min-2)
    c.try_merge-p.result c.try_merge-p.ensures _ c.in-Ok.is

pub returns-in-Ok-taken : goal.returns-in-Ok-taken
returns-in-Ok-taken c =
    let a = c.args in
    placed_outlier a.params.now a.t a.x.now a.potential.now a.outliers.now _ (size (goal.at.returns-in-Ok-taken c).After-min-2)
    c.try_merge-p.result c.try_merge-p.ensures _ c.in_default.is
    c.try_merge-o.result c.try_merge-o.ensures _ c.smaller-near.ensures _ c.in-Ok-taken.is _ c.grown.ensures

pub returns-in-Err : goal.returns-in-Err
returns-in-Err c =
    let a = c.args in
    placed_newborn a.params.now a.t a.x.now a.potential.now a.outliers.now _ (size (goal.at.returns-in-Err c).After-min-2)
    c.try_merge-p.result c.try_merge-p.ensures _ c.in_default.is
    c.try_merge-o.result c.try_merge-o.ensures _ c.smaller-near.ensures _ c.in-Err.is _ c.newborn.ensures c.if-has_place.true

pub returns-in-Err-2 : goal.returns-in-Err-2
returns-in-Err-2 c =
    let a = c.args in
    placed_nowhere a.params.now a.t a.x.now a.potential.now a.outliers.now _ (size (goal.at.returns-in-Err-2 c).After-min-2)
    c.try_merge-p.result c.try_merge-p.ensures _ c.in_default.is
    c.try_merge-o.result c.try_merge-o.ensures _ c.smaller-near.ensures _ c.in-Err-2.is _ c.newborn-in-Err-2.ensures c.if-has_place.false
