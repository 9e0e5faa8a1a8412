-- Document 01: "Nearest takes a smaller distance only: ties keep the lower index and a NaN met first stays." Definitions only.
use Rattle.std.specs.Prelude.{ℕ, ◌+◌, cond, List, [], ◌∷◌, Float}
use Rattle.std.proofs.Math.Option.{Option, none, some}
use Rattle.std.specs.Float.Ieee.{lt}

-- one of a list: its place, itself, and its distance
pub record Near (A : Type 0) : Type 0 where
  pub place : ℕ
  pub micro : A
  pub dist : Float

module _ {A : Type 0} (distance : A → Float) where
  abbrev pub near_at : ℕ → A → Near A
  near_at i a = record { place = i; micro = a; dist = distance a }

  -- "takes a smaller distance only"
  abbrev pub nearer : Near A → Near A → Near A
  nearer best new = cond (lt new.dist best.dist) new best

  -- best is the nearest so far; the list's head has the place i
  unfoldable pub nearest_from : Near A → ℕ → List A → Near A
  nearest_from best i [] = best
  nearest_from best i (a ∷ rest) = nearest_from (nearer best (near_at i a)) (i + 1) rest

  unfoldable pub nearest_of : List A → Option (Near A)
  nearest_of [] = none
  nearest_of (a ∷ rest) = some (nearest_from (near_at 0 a) 1 rest)
