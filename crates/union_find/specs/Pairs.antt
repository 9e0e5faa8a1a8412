-- Joined pairs of places, and chains of them. Definitions only.
use Rattle.std.specs.Prelude.{ℕ, ◌<◌, ◌≡◌, ◌⊎◌, List, [], ◌∷◌}

-- i, j is a pair of the list
abbrev pub Listed : List (ℕ × ℕ) → ℕ → ℕ → Type 0
Listed [] i j = ⊥
Listed (e ∷ es) i j = ((i ≡ e.0) × (j ≡ e.1)) ⊎ Listed es i j

-- i, j is a pair of the list, and both are below n: a pair with another place joins nothing
abbrev pub Joined : ℕ → List (ℕ × ℕ) → ℕ → ℕ → Type 0
Joined n es i j = (i < n) × (j < n) × Listed es i j

-- "A chain has none or more steps.": each is a pair of R, taken either way
pub data Chain (R : ℕ → ℕ → Type 0) : ℕ → ℕ → Type 0 where
  here : {i : ℕ} → Chain R i i
  fore : {i j k : ℕ} → R i j → Chain R j k → Chain R i k
  back : {i j k : ℕ} → R j i → Chain R j k → Chain R i k
