-- Document 01, Families: "`UnionFind` by rank with halving." Definitions only.
use Rattle.std.specs.Prelude.{ℕ, zero, suc, ◌+◌, min, Bool, false, ◌&&◌, cond, List, [], ◌∷◌, ◌++◌, eqb, ltb, length, get_or, set, replicate}
use Rattle.union_find.specs.declared.forest.UnionFind.{UnionFind}

-- how many places there are: one for each micro-cluster held
abbrev pub places : ℕ
places = 64

-- the values of f at the places below n
abbrev pub table : {A : Type 0} → ℕ → (ℕ → A) → List A
table zero f = []
table (suc n) f = table n f ++ (f n ∷ [])

-- each place its own parent, and all ranks 0
unfoldable pub new_of : UnionFind
new_of = record { parent = table places (λ i. i); rank = replicate places 0 }

-- the parent of x
abbrev pub up : List ℕ → ℕ → ℕ
up p x = get_or p x 0

-- "halving": a place's parent becomes its grandparent
abbrev pub halve : List ℕ → ℕ → List ℕ
halve p x = set p x (up p (up p x))

-- the parents after a find, the root found, and the halving steps made
pub record Found : Type 0 where
  pub parent : List ℕ
  pub root : ℕ
  pub steps : ℕ

-- halve, and go on at the new parent, until a root is met; s steps were made before, and at most k follow
unfoldable pub find_from : (k : ℕ) → List ℕ → (x s : ℕ) → Found
find_from zero p x s = record { parent = p; root = x; steps = s }
find_from (suc k) p x s = cond (eqb (up p x) x) (record { parent = p; root = x; steps = s }) (find_from k (halve p x) (up p (up p x)) (suc s))

-- a whole find: no place has more than `places` above it
unfoldable pub find_of : List ℕ → (x : ℕ) → Found
find_of p x = find_from places p x 0

-- "by rank": of two roots the lower rank goes under the higher; of equals y goes under x, whose rank grows
unfoldable pub link_of : UnionFind → (x y : ℕ) → UnionFind
link_of u x y =
    cond (eqb x y) u
    (cond (ltb (get_or u.rank x 0) (get_or u.rank y 0)) (record { parent = set u.parent x y; rank = u.rank })
    (cond (ltb (get_or u.rank y 0) (get_or u.rank x 0)) (record { parent = set u.parent y x; rank = u.rank })
    (record { parent = set u.parent y x; rank = set u.rank x (get_or u.rank x 0 + 1) })))

-- two finds, then a link
unfoldable pub union_of : UnionFind → (a b : ℕ) → UnionFind
union_of u a b =
    link_of (record { parent = (find_of (find_of u.parent a).parent b).parent; rank = u.rank }) (find_of u.parent a).root
    (find_of (find_of u.parent a).parent b).root

-- a pair with a place that is not below n joins nothing
unfoldable pub join_of : (n : ℕ) → UnionFind → ℕ × ℕ → UnionFind
join_of n u e = cond (ltb e.0 n && ltb e.1 n) (union_of u e.0 e.1) u

-- the pairs in the list's order
abbrev pub join_all : (n : ℕ) → UnionFind → List (ℕ × ℕ) → UnionFind
join_all n u [] = u
join_all n u (e ∷ es) = join_all n (join_of n u e) es

-- the root of every place, after the pairs of the first n were joined
unfoldable pub roots_of : (n : ℕ) → List (ℕ × ℕ) → List ℕ
roots_of n es = table places (λ i. (find_of (join_all (min n places) new_of es).parent i).root)

-- the roots of the places that are sought, 0 at every other; the list has so many places as are joined
unfoldable pub roots_in : (sought : List Bool) → List (ℕ × ℕ) → List ℕ
roots_in sought es = table places (λ i. cond (get_or sought i false) (get_or (roots_of (length sought) es) i 0) 0)
