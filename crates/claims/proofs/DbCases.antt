-- The ways that a DBSTREAM places a point: a new or an absorbed one.
use mathlib.Core.Path.{◌≡◌, refl}
use mathlib.Core.Bool.{Bool, true, false, cond}
use mathlib.Core.List.{List}
use lib.Ieee.{Float}
use Rattle.model.specs.DbState.{Holdings, State}
use Rattle.model.specs.DbInsert.{is_absorbed, born, joined, placed}

-- what holds of an absorbed point and of a new micro-cluster holds of the placed point
pub placed_cases :
    (P : Holdings → Type 0) (s : State) (x : List Float) →
    (is_absorbed s x ≡ true → P (joined s x)) →
    (is_absorbed s x ≡ false → P (born s x)) →
    P (placed s x)
placed_cases P s x old new = go (is_absorbed s x) refl
  where
    go : (b : Bool) → is_absorbed s x ≡ b → P (cond b (joined s x) (born s x))
    go true e = old e
    go false e = new e
