-- Every list of points can be lent. Assumes nothing.
use Rattle.std.specs.Prelude.{◌≡◌, refl, List, [], ◌∷◌, ◌++◌, map, Float, length}
use Rattle.std.proofs.Common.{take_at, drop_at}
use Rattle.session.specs.Points.{points_of}

-- the values of all points, one after another
abbrev pub values_of : List (List Float) → List Float
values_of [] = []
values_of (x ∷ xs) = x ++ values_of xs

pub every_list : (xs : List (List Float)) → points_of (map length xs) (values_of xs) ≡ xs
unfolding points_of
every_list [] = refl
every_list (x ∷ xs) = rw (take_at x (values_of xs) (length x) refl, drop_at x (values_of xs) (length x) refl, every_list xs)
