-- What a find, a link and joins give back. Definitions only.
use Rattle.std.specs.Prelude.{ℕ, ◌+◌, cond, List, ltb}
use Rattle.union_find.specs.declared.forest.UnionFind.{UnionFind}
use Rattle.union_find.specs.declared.forest.Reached.{Reached}
use Rattle.union_find.specs.declared.forest.Joins.{Joins}
use Rattle.union_find.specs.declared.forest.Linked.{Linked}
use Rattle.union_find.specs.Forest.{Found}
use Rattle.union_find.specs.Steps.{work_by}

-- a find: the parents that it left, and what it answered
abbrev pub found_told : (parent : List ℕ) → Reached → Found
found_told parent f = record { parent = parent; root = f.root; steps = f.steps }

-- the forest of two arrays
abbrev pub forest_by : (parent rank : List ℕ) → UnionFind
forest_by parent rank = record { parent = parent; rank = rank }

-- joins: the forest, and the finds that were made for it
abbrev pub joins_by : UnionFind → List ℕ → Joins
joins_by u l = record { forest = u; work = work_by l }

-- a link: which root goes under which, and the rank of the one above
abbrev pub linked_of : (x y rx ry : ℕ) → Linked
linked_of x y rx ry =
    cond (ltb rx ry) (record { under = x; above = y; rank = ry })
    (cond (ltb ry rx) (record { under = y; above = x; rank = rx }) (record { under = y; above = x; rank = rx + 1 }))
