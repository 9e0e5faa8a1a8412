-- A clock that counts the accepted inserts exactly, and the times that were read off it, of any stream. Definitions only.
use Rattle.std.specs.Prelude.{ℕ, ◌-◌, ◌≤◌, ◌<◌, Float}
use Rattle.float.specs.Rounded.{◌⊖◌, whole, Exact}
use Rattle.model.specs.Limits.{clock_most}

-- the clock t after n accepted inserts
pub record Counts (n : ℕ) (t : Float) : Type 0 where
  pub exact : Exact n t
  pub limit : n ≤ clock_most

-- a time kept after n accepted inserts: the clock at one of them
pub record Dated (n : ℕ) (last : Float) : Type 0 where
  pub tick : ℕ
  pub before : tick < n
  pub at : Exact tick last
  -- its age, "t − last", at this clock and at every later one
  pub age : (m : ℕ) → n ≤ m → m ≤ clock_most → Exact (m - tick) (whole m ⊖ last)
