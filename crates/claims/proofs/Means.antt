-- A push leaves the number of a mean's coordinates.
use Prim.Native.Nat.{suc}
use mathlib.Core.Path.{◌≡◌, refl, ap}
use mathlib.Core.List.{List, [], ◌∷◌}
use lib.ListN.{length}
use lib.Ieee.{Float}
use Rattle.feature.specs.Feature.{moved}

pub moved_length : (f : Float) (ms xs : List Float) → length (moved f ms xs) ≡ length ms
unfolding moved
moved_length f [] xs = refl
moved_length f (m ∷ ms) [] = refl
moved_length f (m ∷ ms) (x ∷ xs) = ap suc (moved_length f ms xs)
