-- Document 01, Families: DBSTREAM's labels. Definitions only.
use Rattle.std.specs.Prelude.{ℕ, suc, Bool, false, cond, ◌&&◌, List, [], ◌∷◌, map, ℤ, ◌==◌, slice_index_or}
use Rattle.std.specs.Float.Ieee.{le}
use Rattle.float.specs.Rounded.{◌⊗◌}
use Rattle.model.specs.declared.micro.MicroId.{MicroId}
use Rattle.model.specs.declared.micro.DbMicro.{DbMicro}
use Rattle.model.specs.declared.link.Link.{Link}
use Rattle.model.specs.Body.{faded_weight}
use Rattle.model.specs.Families.{labels_by}
use Rattle.model.specs.DbState.{State}
use Rattle.model.specs.DbInsert.{faded_link}

-- the place at which the creation number stands; the length of the list if at none
unfoldable pub place_of : List DbMicro → MicroId → ℕ
place_of [] id = 0
place_of (m ∷ rest) id = cond (m.id.0 == id.0) 0 (suc (place_of rest id))

-- "strong means faded weight ≥ min_weight"
abbrev pub is_strong : State → DbMicro → Bool
is_strong s m = le s.params.settings.min_weight (faded_weight s.params.settings.lambda s.t m.body)

abbrev pub strong_ones : State → List Bool
strong_ones s = map (is_strong s) s.held.micros

-- of the micro-cluster at a place; no place past the list is strong
abbrev pub strong_at : State → ℕ → Bool
strong_at s i = slice_index_or (strong_ones s) i false

-- "a faded link ≥ alpha×min_weight"
abbrev pub is_dense : State → Link → Bool
is_dense s l = le (s.params.settings.alpha ⊗ s.params.settings.min_weight) (faded_link s.params.settings.lambda s.t l)

abbrev pub ends_of : State → Link → ℕ × ℕ
ends_of s l = (place_of s.held.micros l.lo, place_of s.held.micros l.hi)

-- "strong ends are joined by a faded link ≥ alpha×min_weight"
abbrev pub joins : State → Link → Bool
joins s l = strong_at s (ends_of s l).0 && strong_at s (ends_of s l).1 && is_dense s l

unfoldable pub joins_of : State → List Link → List (ℕ × ℕ)
joins_of s [] = []
joins_of s (l ∷ rest) = cond (joins s l) (ends_of s l ∷ joins_of s rest) (joins_of s rest)

unfoldable pub labels_of : State → List ℤ
unfolding labels_by joins_of place_of
labels_of s = labels_by (strong_ones s) (joins_of s s.held.links)
