-- A lent list of inserts: the values one after another, and the length of each insert. Definition only.
use Rattle.std.specs.Prelude.{ℕ, List, [], ◌∷◌, Float, take, drop}

-- where the values run out, a point is shorter than its length says
unfoldable pub points_of : (lengths : List ℕ) → (values : List Float) → List (List Float)
points_of [] values = []
points_of (n ∷ rest) values = take n values ∷ points_of rest (drop n values)
