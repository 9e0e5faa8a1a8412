-- A forest as its parents and ranks. Definition only.
use Rattle.std.specs.Prelude.{ℕ, List}

-- the parent of each place, a root being its own, and the ranks of the roots
pub record Ranked : Type 0 where
  pub parent : List ℕ
  pub rank : List ℕ
