use mathlib.Core.Path.{◌≡◌}
use mathlib.Core.List.{map}
use Rattle.model.specs.Body.{faded_weight, radius_of}
use Rattle.readout.proofs.Copies.{partly}
use Rattle.readout.proofs.stats.write_figures.Given as goal

abbrev pub invariant-loop-i : goal.invariant-loop-i
invariant-loop-i l =
    (l.weights ≡ partly (map (faded_weight l.lambda l.t) l.bodies) l.initial.weights l.i) × (l.radii ≡ partly (map radius_of l.bodies) l.initial.radii l.i)
