-- Document 01, Families: labels and groups, from the pairs of places that are joined. Definitions only.
use Rattle.std.specs.Prelude.{ℕ, Bool, List, map, length, take, ℤ, Float}
use Rattle.std.specs.Float.Ieee.{le}
use Rattle.float.specs.Rounded.{nought}
use Rattle.union_find.specs.Forest.{roots_of}
use Rattle.labels.specs.Label.{labels_of}
use Rattle.labels.specs.Group.{sum_from}

-- "Labels count from 0 by first member, −1 otherwise.": of the places inside, where the pairs are joined
unfoldable pub labels_by : (inside : List Bool) → (pairs : List (ℕ × ℕ)) → List ℤ
labels_by inside pairs = labels_of inside (roots_of (length inside) pairs)

-- "a group counts if its faded weights, summed by index from 0, reach mu": which places' groups do
unfoldable pub counted_by : (mu : Float) → (weights : List Float) → (pairs : List (ℕ × ℕ)) → List Bool
counted_by mu weights pairs =
    let roots : List ℕ = roots_of (length weights) pairs in
    map (λ (v : ℕ). le mu (sum_from nought v roots weights)) (take (length weights) roots)
