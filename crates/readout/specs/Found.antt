-- What the code says of the nearest. Definitions only.
use Rattle.std.specs.Prelude as prelude
use Rattle.std.specs.Prelude.{List, Float, Some, None}
use Rattle.std.proofs.Math.Option.{Option, none, some}
use Rattle.model.specs.Nearest.{Near, nearest_of}
use Rattle.readout.specs.declared.distances.Found.{Found}

-- the place and the distance of the nearest, if there is one
abbrev pub found_of : {A : Type 0} → Option (Near A) → prelude.Option Found
found_of none = None
found_of (some b) = Some (record { place = b.place; dist = b.dist })

-- "Nearest takes a smaller distance only: ties keep the lower index and a NaN met first stays.", by distances that were measured before
unfoldable pub nearest_among : List Float → prelude.Option Found
unfolding nearest_of
nearest_among distances = found_of (nearest_of (λ (d : Float). d) distances)
