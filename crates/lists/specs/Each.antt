-- What holds of every element of a list. Definition only.
use Rattle.std.specs.Prelude.{List, [], ◌∷◌}

-- P holds of each
abbrev pub Each : {A : Type 0} → (A → Type 0) → List A → Type 0
Each P [] = Unit
Each P (a ∷ bs) = P a × Each P bs
