-- Forests of parents and ranks that `UnionFind` makes. Definitions only.
use Rattle.std.specs.Prelude.{ℕ, ◌^◌, ◌<◌, ◌≤◌, ◌≡◌, ◌≢◌, cond, List, eqb, length, get_or}
use Rattle.union_find.specs.declared.forest.UnionFind.{UnionFind}
use Rattle.union_find.specs.Inside.Sum.{sum}
use Rattle.union_find.specs.Forest.{places, up}

-- a root of rank k weighs 2^k, any other place nothing
abbrev pub weigh : List ℕ → List ℕ → ℕ → ℕ
weigh p r i = cond (eqb (up p i) i) (2 ^ get_or r i 0) 0

-- parents and ranks of all places: ranks rise towards the root, none is above 6, and the roots weigh no more than the places
pub record WellFormed (p r : List ℕ) : Type 0 where
  pub plen : length p ≡ places
  pub rlen : length r ≡ places
  pub low : (i : ℕ) → i < places → up p i < places
  pub rise : (i : ℕ) → i < places → up p i ≢ i → get_or r i 0 < get_or r (up p i) 0
  pub cap : (i : ℕ) → i < places → get_or r i 0 ≤ 6
  pub weight : sum places (weigh p r) ≤ places

-- a forest whose ranks rise with its parents
abbrev pub Sound : UnionFind → Type 0
Sound u = WellFormed u.parent u.rank
