-- What a counting loop over the first n elements of a list has left to do at i. Definition only.
use Rattle.std.specs.Prelude.{ℕ, List, take, drop}

module _ {ℓ} {A : Type ℓ} where
  -- of the first n elements those from i on
  unfoldable pub rest : ℕ → ℕ → List A → List A
  rest n i l = drop i (take n l)
