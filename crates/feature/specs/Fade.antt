-- Document 01, Fade, and its bounds. Definitions only; `Laws/Fade.antt` proves the bounds.
use Rattle.std.specs.Prelude.{T, Float}
use Rattle.std.specs.Float.Ieee.{neg, le}
use Rattle.float.specs.Rounded.{◌⊖◌, ◌⊗◌, nought, one}
use Rattle.float.specs.TwoTo.{two_to}

-- "Fade is two to the power −lambda × (t − last)"
abbrev pub fade_of : (lambda t last : Float) → Float
fade_of lambda t last = two_to (neg lambda ⊗ (t ⊖ last))

-- "It is never above 1 nor below 0."
pub record Share (f : Float) : Type 0 where
  pub least : T (le nought f)
  pub most : T (le f one)
