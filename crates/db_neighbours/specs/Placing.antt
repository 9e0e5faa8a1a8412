-- The micro-clusters with a point, by what the scan for it found. Definitions only.
use Rattle.std.specs.Prelude.{ℕ, ◌+◌, ◌%◌, ◌^◌, Bool, cond, not, ◌||◌, List, [], ◌∷◌, ◌++◌, take, ◌==◌, nat_lt, Float}
use Rattle.float.specs.Rounded.{◌⊗◌}
use Rattle.feature.specs.Feature.{max_dim}
use Rattle.model.specs.declared.micro.MicroId.{MicroId}
use Rattle.model.specs.declared.micro.DbMicro.{DbMicro}
use Rattle.model.specs.Limits.{micros_most}
use Rattle.model.specs.DbInsert.{newborn, absorbs}
use Rattle.db_neighbours.specs.declared.scan.Scan.{Scan}
use Rattle.db_neighbours.specs.Near.{absorb_near}

-- "With none, a new one goes to the end, with the next creation number", where there is a place; "Otherwise each neighbour fades to t and absorbs the point"
abbrev pub placed_among : Scan → (r lambda t : Float) → MicroId → List Float → (n : ℕ) → List DbMicro → List DbMicro
placed_among f r lambda t next x n ms =
    cond (f.count == 0)
    (cond (nat_lt n micros_most) (ms ++ newborn max_dim next t x ∷ []) ms)
    (absorb_near (r ⊗ r) (absorbs lambda t x) (take n f.distances) ms)

-- creation numbers are 64 bits wide
abbrev pub next_after : Scan → (n : ℕ) → MicroId → MicroId
next_after f n next = cond (f.count == 0) (cond (nat_lt n micros_most) (record { 0 = (next.0 + 1) % 2 ^ 64 }) next) next

-- "Would the point be absorbed, or are fewer than 64 micro-clusters held?"
abbrev pub has_place_by : Scan → (held : ℕ) → Bool
has_place_by f held = not (f.count == 0) || nat_lt held micros_most
