-- Document 01: "Distances are the plain sum of (x−y)×(x−y), by index from 0". Definitions only.
use Rattle.std.specs.Prelude.{List, [], ◌∷◌, Float}
use Rattle.float.specs.Rounded.{◌⊕◌, ◌⊖◌, ◌⊗◌, nought}

-- s and the squares of the differences, as far as both lists go
unfoldable pub sum_from : Float → List Float → List Float → Float
sum_from s [] ys = s
sum_from s (x ∷ xs) [] = s
sum_from s (x ∷ xs) (y ∷ ys) = sum_from (s ⊕ (x ⊖ y) ⊗ (x ⊖ y)) xs ys

-- the squared distance of two points
abbrev pub sq_dist : List Float → List Float → Float
sq_dist xs ys = sum_from nought xs ys
