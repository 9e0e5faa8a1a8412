-- Document 02, item 8: the finds of a run over the same joins, each by the halving steps that it makes. Definitions only.
use Rattle.std.specs.Prelude.{ℕ, ◌+◌, min, Bool, ◌&&◌, cond, List, [], ◌∷◌, ◌++◌, ltb, length}
use Rattle.lists.specs.Total.{total}
use Rattle.union_find.specs.declared.forest.UnionFind.{UnionFind}
use Rattle.union_find.specs.declared.forest.Work.{Work}
use Rattle.union_find.specs.Forest.{places, new_of, find_of, join_of, join_all}

-- "The finds are two a join, lower place first": the second has the parents that the first left
abbrev pub union_steps : UnionFind → (a b : ℕ) → List ℕ
union_steps u a b = (find_of u.parent a).steps ∷ (find_of (find_of u.parent a).parent b).steps ∷ []

-- a pair with a place that is not below n joins nothing
unfoldable pub join_steps : (n : ℕ) → UnionFind → ℕ × ℕ → List ℕ
join_steps n u e = cond (ltb e.0 n && ltb e.1 n) (union_steps u e.0 e.1) []

-- "Every pair due .. is joined, chained already or not": in the list's order
unfoldable pub joins_steps : (n : ℕ) → UnionFind → List (ℕ × ℕ) → List ℕ
joins_steps n u [] = []
joins_steps n u (e ∷ es) = join_steps n u e ++ joins_steps n (join_of n u e) es

-- "then one for each": a find at each of these places, with the parents that the last left
unfoldable pub seek_steps : (parent : List ℕ) → List ℕ → List ℕ
seek_steps p [] = []
seek_steps p (x ∷ xs) = (find_of p x).steps ∷ seek_steps (find_of p x).parent xs

-- the places of those that are sought, "in list order"; the list's head has the place i
unfoldable pub places_from : (i : ℕ) → List Bool → List ℕ
places_from i [] = []
places_from i (b ∷ bs) = cond b (i ∷ places_from (i + 1) bs) (places_from (i + 1) bs)

-- all of them, where pairs of so many places as the list has are joined
unfoldable pub find_steps : (sought : List Bool) → List (ℕ × ℕ) → List ℕ
find_steps sought es =
    let n : ℕ = min (length sought) places in
    joins_steps n new_of es ++ seek_steps (join_all n new_of es).parent (places_from 0 sought)

-- "the number of finds and the number of halving steps made": how long the list is, and its sum
abbrev pub work_by : List ℕ → Work
work_by l = record { finds = length l; steps = total l }
