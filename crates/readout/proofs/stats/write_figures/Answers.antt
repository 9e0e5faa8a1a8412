-- `write_figures` meets its contract. Assumes nothing.
use mathlib.Core.Path.{refl}
use native.Mathlib.Omega.{arith}
use Rattle.model.specs.Body.{faded_weight, radius_of}
use Rattle.readout.proofs.Figures.{figure_step, figure_end}
use Rattle.readout.proofs.stats.write_figures.Goals as goal

pub loop-i-init : goal.loop-i-init
loop-i-init c = (refl, refl)

pub loop-i-preserved : goal.loop-i-preserved
loop-i-preserved c =
    let l = c.loop-i in
    let a = c.args in
    let k = c.loop-i-test.true in (
      figure_step (faded_weight a.lambda a.t) a.bodies.now a.weights.now l.weights l.i c.requires.0 l.invariant.0 _ _ c.faded_weight.ensures k,
      figure_step radius_of a.bodies.now a.radii.now l.radii l.i c.requires.1 l.invariant.1 _ _ c.radius.ensures k,
    )

pub returns : goal.returns
returns c =
    let a = c.args in
    let l = c.loop-i in record {
      weights_after = figure_end (faded_weight a.lambda a.t) a.bodies.now a.weights.now l.weights l.i c.requires.0 l.invariant.0 (omega arith);
      radii = figure_end radius_of a.bodies.now a.radii.now l.radii l.i c.requires.1 l.invariant.1 (omega arith);
    }
