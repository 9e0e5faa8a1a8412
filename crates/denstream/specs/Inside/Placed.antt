-- What is held once a point is at its target, and before its tick. Definitions only.
use Rattle.model.specs.Stream.{taking}
use Rattle.model.specs.DenState.{Holdings, State}
use Rattle.den_pool.specs.Held.{micro_in}
use Rattle.den_placement.specs.declared.choice.Placed.{Placed}
use Rattle.den_placement.specs.Placing.{pooled_at}
use Rattle.denstream.specs.declared.stream.DenStream.{DenStream}
use Rattle.denstream.specs.View.{view, dim_of}

abbrev pub held_by : DenStream → Placed → Holdings
held_by s k = pooled_at k.target (micro_in (dim_of s) k.micro) (view s).held

abbrev pub placed_by : DenStream → Placed → State
placed_by s k = taking (view s) (held_by s k)
