-- A search through a list. Definition only.
use Rattle.std.specs.Prelude.{Bool, cond, List, [], ◌∷◌}

-- what f says of the first element of which p holds; d where there is none
unfoldable pub first_of : {A B : Type 0} → (p : A → Bool) → (f : A → B) → (d : B) → List A → B
first_of p f d [] = d
first_of p f d (x ∷ xs) = cond (p x) (f x) (first_of p f d xs)
