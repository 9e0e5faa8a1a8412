-- What is seen of a pool: its first ones, of each micro-cluster the coordinates that a point has. Definitions only.
use Rattle.std.specs.Prelude.{ℕ, min, List, map, Float, length, take}
use Rattle.feature.specs.Feature.{max_dim}
use Rattle.model.specs.declared.micro.DenMicro.{DenMicro}
use Rattle.model.specs.Body.{faded_weight, body_in, distance_to}
use Rattle.model.specs.DenState.{Settings, Params}

-- never more than 15 coordinates
abbrev pub dim_of : Params → ℕ
dim_of p = min p.settings.dim max_dim

-- g of so many coordinates
abbrev pub with_dim : Settings → ℕ → Settings
with_dim g dim = record { dim = dim; eps = g.eps; lambda = g.lambda; beta = g.beta; mu = g.mu }

abbrev pub sized : (dim : ℕ) → Params → Params
sized dim p = record { settings = with_dim p.settings dim; eps2 = p.eps2; bm = p.bm; tp = p.tp }

abbrev pub settled_of : Params → Params
settled_of p = sized (dim_of p) p

-- how many coordinates of a point are looked at
abbrev pub size_of : Params → List Float → ℕ
size_of p x = min (length x) (dim_of p)

-- how many coordinates of a point a micro-cluster keeps
abbrev pub kept_of : List Float → ℕ
kept_of x = min (length x) max_dim

-- a micro-cluster kept in 15 places, as that of dim coordinates which it is
abbrev pub micro_in : (dim : ℕ) → DenMicro → DenMicro
micro_in dim m = record { body = body_in dim m.body; t0 = m.t0 }

-- the first n of a pool
abbrev pub seen : (dim n : ℕ) → List DenMicro → List DenMicro
seen dim n pool = map (micro_in dim) (take n pool)

-- the squared distance of its centre from a point of dim coordinates
abbrev pub distance_of : (dim : ℕ) → List Float → DenMicro → Float
distance_of dim x m = distance_to x (micro_in dim m).body

abbrev pub weight_of : (lambda t : Float) → DenMicro → Float
weight_of lambda t m = faded_weight lambda t m.body
