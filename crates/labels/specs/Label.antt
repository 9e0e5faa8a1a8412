-- Document 01, Families: labels of places that each have a root. Definitions only.
use Rattle.std.specs.Prelude.{ℕ, suc, ◌-◌, min, Bool, cond, List, [], ◌∷◌, ◌++◌, eqb, ltb, ℤ, pos, negsuc, length, replicate}
use Rattle.union_find.specs.Forest.{places}

-- the place of v in the list; the list's length if it has none
unfoldable pub place_in : (v : ℕ) → List ℕ → ℕ
place_in v [] = 0
place_in v (u ∷ us) = cond (eqb u v) 0 (suc (place_in v us))

-- the roots met, and v at their end unless it was met before
unfoldable pub meet : List ℕ → (v : ℕ) → List ℕ
meet met v = cond (ltb (place_in v met) (length met)) met (met ++ (v ∷ []))

-- "Labels count from 0 by first member, −1 otherwise.": a place inside the mask gets its root's place among the roots met so far
unfoldable pub labels_from : (met : List ℕ) → (mask : List Bool) → (roots : List ℕ) → List ℤ
labels_from met [] rs = []
labels_from met (b ∷ bs) [] = []
labels_from met (b ∷ bs) (r ∷ rs) = cond b (pos (place_in r met)) (negsuc 0) ∷ labels_from (cond b (meet met r) met) bs rs

-- the labels of the places that the mask covers, with no root met before
unfoldable pub labels_of : (mask : List Bool) → (roots : List ℕ) → List ℤ
labels_of mask roots = labels_from [] mask roots

-- as an array of all places: −1 from the mask's end on
unfoldable pub labels_in : (roots : List ℕ) → (mask : List Bool) → List ℤ
labels_in roots mask = labels_of mask roots ++ replicate (places - min (length mask) places) (negsuc 0)
