-- Document 01, Families: a group's weights, "summed by index from 0". Definitions only.
use Rattle.std.specs.Prelude.{ℕ, suc, cond, List, [], ◌∷◌, eqb, Float}
use Rattle.std.specs.Float.{binary64}
use Rattle.std.specs.Float.Ieee.{add, of_bits}
use Rattle.union_find.specs.Forest.{places, table}

-- the weights whose root is v, added to sum in the list's order
unfoldable pub sum_from : (sum : Float) → (v : ℕ) → (roots : List ℕ) → (weights : List Float) → Float
sum_from sum v [] ws = sum
sum_from sum v (r ∷ rs) [] = sum
sum_from sum v (r ∷ rs) (w ∷ ws) = sum_from (cond (eqb r v) (add binary64 sum w) sum) v rs ws

-- for each place, the sum of the weights whose root it is
unfoldable pub sums_of : (roots : List ℕ) → (weights : List Float) → List Float
sums_of roots weights = table places (λ v. sum_from (of_bits binary64 0) v roots weights)

-- the weights of the places of which P holds, summed by index: from place i on, with sum so far, they come to v
pub data Summed (P : ℕ → Type 0) : (i : ℕ) → (sum : Float) → List Float → (v : Float) → Type 0 where
  done : {i : ℕ} {sum : Float} → Summed P i sum [] sum
  taken : {i : ℕ} {sum w v : Float} {ws : List Float} → P i → Summed P (suc i) (add binary64 sum w) ws v → Summed P i sum (w ∷ ws) v
  passed : {i : ℕ} {sum w v : Float} {ws : List Float} → (P i → ⊥) → Summed P (suc i) sum ws v → Summed P i sum (w ∷ ws) v
