-- What `by_rank` answers, and that storing it is a link. Assumes nothing.
use Prim.Native.Nat.{ℕ, ◌+◌, ◌<◌}
use mathlib.Core.Path.{◌≡◌, sym, ap, ◌∙◌}
use mathlib.Core.Logic.{◌≢◌, by_cases}
use mathlib.Core.List.{List}
use native.Mathlib.Omega.{arith}
use native.Mathlib.Decide.{dec_lt}
use lib.ListN.{get_or, set}
use lib.Seq.{set-get_or}
use borrow.Author.Tests.{lt-ltb, le-ltb}
use Rattle.union_find.specs.declared.forest.UnionFind.{UnionFind}
use Rattle.union_find.specs.declared.forest.Linked.{Linked}
use Rattle.union_find.specs.Forest.{link_of}
use Rattle.union_find.specs.Inside.Told.{linked_of, forest_by}
use Rattle.union_find.specs.Laws.Union.{link_less, link_more, link_equal}

-- the three ways
module _ (x y rx ry : ℕ) where
  lower : rx < ry → linked_of x y rx ry ≡ record { under = x; above = y; rank = ry }
  lower h = rw (lt-ltb rx ry h)

  higher : ry < rx → linked_of x y rx ry ≡ record { under = y; above = x; rank = rx }
  higher h = simp (le-ltb rx ry (omega arith), lt-ltb ry rx h)

  equals : rx ≡ ry → linked_of x y rx ry ≡ record { under = y; above = x; rank = rx + 1 }
  equals h = simp (le-ltb rx ry (omega arith), le-ltb ry rx (omega arith))

-- roots of u that differ
module _ (u : UnionFind) (x y : ℕ) (xy : x ≢ y) where
  abbrev rx : ℕ
  rx = get_or u.rank x 0

  abbrev ry : ℕ
  ry = get_or u.rank y 0

  abbrev stored : Linked → UnionFind
  stored l = forest_by (set u.parent l.under l.above) (set u.rank l.above l.rank)

  -- a rank that stays is stored as it was
  same : (p : List ℕ) (i : ℕ) → forest_by p (set u.rank i (get_or u.rank i 0)) ≡ forest_by p u.rank
  same p i = ap (forest_by p) (set-get_or u.rank i 0)

  by_ranks : stored (linked_of x y rx ry) ≡ link_of u x y
  by_ranks =
      by_cases (dec_lt rx ry) (λ h. ap stored (lower x y rx ry h) ∙ same (set u.parent x y) y ∙ sym (link_less u x y xy h))
      (λ h.
      by_cases (dec_lt ry rx) (λ g. ap stored (higher x y rx ry g) ∙ same (set u.parent y x) x ∙ sym (link_more u x y xy g))
      (λ g. ap stored (equals x y rx ry (omega arith)) ∙ sym (link_equal u x y xy (omega arith))))

  module _ (l : Linked) (e : l ≡ linked_of x y rx ry) where
    pub linked_is : forest_by (set u.parent l.under l.above) (set u.rank l.above l.rank) ≡ link_of u x y
    linked_is = ap stored e ∙ by_ranks
