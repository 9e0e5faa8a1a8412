-- The micro-clusters beside their distances. Definitions only.
use Rattle.std.specs.Prelude.{cond, List, [], ◌∷◌, map, Float}
use Rattle.std.specs.Float.Ieee.{le}
use Rattle.model.specs.declared.micro.DbMicro.{DbMicro}
use Rattle.model.specs.Body.{distance_to}

-- "all measured before any changes"
abbrev pub distances_to : List Float → List DbMicro → List Float
distances_to x ms = map (λ (m : DbMicro). distance_to x m.body) ms

-- all, with f of those at most r2 away
unfoldable pub absorb_near : (r2 : Float) → (DbMicro → DbMicro) → List Float → List DbMicro → List DbMicro
absorb_near r2 f [] ms = ms
absorb_near r2 f (d ∷ ds) [] = []
absorb_near r2 f (d ∷ ds) (m ∷ ms) = cond (le d r2) (f m) m ∷ absorb_near r2 f ds ms
