-- `statistics` meets its contract. Assumes nothing.
use native.Mathlib.Omega.{arith}
use lib.ListN.{take}
use Rattle.std.proofs.Common.{rules}
use Rattle.feature.specs.Feature.{max_dim}
use Rattle.model.specs.Limits.{micros_most}
use Rattle.readout.specs.Seen.{seen}
use Rattle.readout.proofs.Centres.{means_wide, wide_take}
use Rattle.readout.proofs.Slices.{Due, first_due, short_centres, short_weights, short_radii, all_written}
use Rattle.readout.proofs.stats.statistics.Goals.{After-min-width, then-centres_short-via-then-centres_short}
use Rattle.readout.proofs.stats.statistics.Goals.{then-centres_short-via-else-centres_short+then-weights_short}
use Rattle.readout.proofs.stats.statistics.Goals.{then-centres_short-via-else-centres_short+else-weights_short+then-radii_short}
use Rattle.readout.proofs.stats.statistics.Given.{Over}
use Rattle.readout.proofs.stats.statistics.Goals as goal

due : (g : Over) → (c : goal.After-min-width g) →
    let a = c.args in
    Due c.min-width.result (take c.min.result c.each-all.result) (seen a.dim g.M.Micro.body_of (take micros_most a.micros.now))
due g c =
    let a = c.args in
    let all = c.each-all in record {
      low = omega (arith, c.min-width.ensures);
      wide = wide_take max_dim c.min.result all.result (means_wide all.result _ all.type_inv.1.1);
      is = first_due c.min.result c.min-width.result a.dim g.M.Micro.body_of a.micros.now all.result c.min.ensures c.min-width.ensures
          (omega arith) (all.ensures g.M.Micro.body_of (λ m b k. search rules));
    }

pub returns-then-centres_short : goal.returns-then-centres_short
returns-then-centres_short g c =
    let a = c.args in
    let q = due g (goal.at.returns-then-centres_short g c).After-min-width in
    elim c.then-centres_short.branch [
      | then-centres_short-via-then-centres_short w ↦ short_centres a.lambda a.t q a.centres.now a.weights.now a.radii.now w.if-centres_short.true
      | then-centres_short-via-else-centres_short+then-weights_short w ↦
          short_weights a.lambda a.t q a.centres.now a.weights.now a.radii.now w.if-centres_short.false w.if-weights_short.true
      | then-centres_short-via-else-centres_short+else-weights_short+then-radii_short w ↦
          short_radii a.lambda a.t q a.centres.now a.weights.now a.radii.now w.if-centres_short.false w.if-weights_short.false w.if-radii_short.true
    ]

pub write_centres-requires-clause-wide : goal.write_centres-requires-clause-wide
write_centres-requires-clause-wide g c = (due g (goal.at.write_centres-requires-clause-wide g c).After-min-width).wide

pub returns : goal.returns
returns g c =
    let a = c.args in
    all_written a.lambda a.t (due g (goal.at.returns g c).After-min-width) a.centres.now a.weights.now a.radii.now
    c.if-centres_short.false c.if-weights_short.false c.if-radii_short.false _ _ _ c.write_centres.ensures c.write_figures.ensures.weights_after
    c.write_figures.ensures.radii
