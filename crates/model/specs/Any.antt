-- Whether a list has one of which a test holds. Definition only.
use Rattle.std.specs.Prelude.{Bool, false, ◌||◌, List, [], ◌∷◌}

unfoldable pub any {ℓ} : {A : Type ℓ} → (A → Bool) → List A → Bool
any p [] = false
any p (a ∷ rest) = p a || any p rest
