-- What the read-outs see of the micro-clusters: their bodies, of dim coordinates. Definitions only.
use Rattle.std.specs.Prelude.{ℕ, min, List, map}
use Rattle.feature.specs.Feature.{max_dim}
use Rattle.model.specs.declared.body.Body.{Body}
use Rattle.model.specs.Body.{body_in}

-- dim is cut to the places of a mean
abbrev pub seen : (dim : ℕ) → {M : Type 0} → (M → Body) → List M → List Body
seen dim body_of micros = map (λ m. body_in (min dim max_dim) (body_of m)) micros
