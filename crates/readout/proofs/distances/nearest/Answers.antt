-- `nearest` meets its contract. Assumes nothing.
use Rattle.std.proofs.Common.{rules, Float}
use Rattle.readout.specs.Found.{nearest_among}
use Rattle.readout.proofs.distances.nearest.Goals as goal

pub returns : goal.returns
unfolding nearest_among
returns c = c.nearest_by.ensures (λ (d : Float). d) (λ m v k. search rules)
