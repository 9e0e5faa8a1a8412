-- The pools of a DenStream, kept in two arrays with a count each. Definitions only.
use Rattle.std.specs.Prelude.{ℕ, ◌-◌, min, List, map}
use Rattle.model.specs.declared.micro.DenMicro.{DenMicro}
use Rattle.model.specs.Limits.{micros_most}
use Rattle.model.specs.DenState.{Holdings, pooled}
use Rattle.den_pool.specs.Held.{micro_in, seen}

-- how many are held: never more than 64 in both pools together
abbrev pub potential_held : (potential : ℕ) → ℕ
potential_held potential = min potential micros_most

abbrev pub outliers_held : (potential outliers : ℕ) → ℕ
outliers_held potential outliers = min outliers (micros_most - potential_held potential)

-- two pools, of each micro-cluster the coordinates that a point has
abbrev pub pools_in : (dim : ℕ) → (potential outliers : List DenMicro) → Holdings
pools_in dim potential outliers = pooled (map (micro_in dim) potential) (map (micro_in dim) outliers)

-- what is held in these arrays
abbrev pub pools_of : (dim : ℕ) → (potential : List DenMicro) → (potential_count : ℕ) → (outliers : List DenMicro) → (outlier_count : ℕ) → Holdings
pools_of dim potential potential_count outliers outlier_count =
    pooled (seen dim (potential_held potential_count) potential) (seen dim (outliers_held potential_count outlier_count) outliers)
