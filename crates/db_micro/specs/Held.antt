-- The micro-clusters that an array holds, and parts of them. Definitions only.
use Rattle.std.specs.Prelude.{ℕ, Bool, List, map, Float, take}
use Rattle.std.specs.Float.Ieee.{le}
use Rattle.model.specs.declared.micro.DbMicro.{DbMicro}
use Rattle.model.specs.Body.{faded_weight, body_in}

-- a micro-cluster that is kept in 15 places, as the one of dim coordinates that it is
abbrev pub cut_to : ℕ → DbMicro → DbMicro
cut_to dim m = record { body = body_in dim m.body; id = m.id }

-- the first n, of dim coordinates
abbrev pub held : (dim n : ℕ) → List DbMicro → List DbMicro
held dim n ms = map (cut_to dim) (take n ms)

-- "strong means faded weight ≥ min_weight"
abbrev pub reaches : (lambda t weight : Float) → DbMicro → Bool
reaches lambda t weight m = le weight (faded_weight lambda t m.body)
