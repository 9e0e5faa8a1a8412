-- The sum of a list of numbers. Definition only.
use Rattle.std.specs.Prelude.{ℕ, ◌+◌, List, [], ◌∷◌}

-- of all of them, 0 where there is none
abbrev pub total : List ℕ → ℕ
total [] = 0
total (a ∷ l) = a + total l
