-- The joined pairs of places, by the creation numbers and the strong ones in list order. Definitions only.
use Rattle.std.specs.Prelude.{ℕ, suc, Bool, false, cond, ◌&&◌, List, [], ◌∷◌, eqb, Float, get_or}
use Rattle.std.specs.Float.Ieee.{le}
use Rattle.model.specs.declared.micro.MicroId.{MicroId}
use Rattle.model.specs.declared.link.Link.{Link}
use Rattle.model.specs.DbInsert.{faded_link}

-- the place of a creation number; the list's length where it is not there
unfoldable pub place_among : List MicroId → MicroId → ℕ
place_among [] id = 0
place_among (a ∷ ids) id = cond (eqb a.0 id.0) 0 (suc (place_among ids id))

-- whether a link joins its ends: both are strong, and it has faded to no less than dense
abbrev pub joins_by : (ids : List MicroId) (strong : List Bool) (lambda t dense : Float) → Link → Bool
joins_by ids strong lambda t dense l =
    get_or strong (place_among ids l.lo) false && get_or strong (place_among ids l.hi) false && le dense (faded_link lambda t l)

-- "strong ends are joined by a faded link ≥ alpha×min_weight": their places
unfoldable pub joined_by : (ids : List MicroId) (strong : List Bool) (lambda t dense : Float) → List Link → List (ℕ × ℕ)
joined_by ids strong lambda t dense [] = []
joined_by ids strong lambda t dense (l ∷ rest) =
    cond (joins_by ids strong lambda t dense l) ((place_among ids l.lo, place_among ids l.hi) ∷ joined_by ids strong lambda t dense rest)
    (joined_by ids strong lambda t dense rest)
