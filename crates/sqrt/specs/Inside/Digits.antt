-- The 54 leading digits of a root, as the laws take them. Definition only.
use Rattle.std.specs.Prelude.{ℕ, ◌-◌, ◌*◌, ◌^◌, ◌<◌, ◌≤◌}
use Rattle.sqrt.specs.Root.{IsRoot}

-- q is the whole part of the root of m * 4 ^ (i - 27), and has 54 binary digits
pub record Rooted (m q i : ℕ) : Type 0 where
  pub low : 2 ^ 53 ≤ q
  pub high : q < 2 ^ 54
  pub least : 54 ≤ i
  pub most : i ≤ 80
  pub is_root : IsRoot (m * 4 ^ (i - 27)) q
