-- A stored weight or link value, and a micro-cluster's body, of any stream. Definitions only.
use Rattle.std.specs.Prelude.{ℕ, ◌≡◌, T, Float, length}
use Rattle.std.specs.Float.Ieee.{le}
use Rattle.float.specs.Rounded.{nought, one, whole}
use Rattle.model.specs.declared.body.Body.{Body}
use Rattle.model.specs.Fading.{faded_to}
use Rattle.claims.specs.Clock.{Dated}

-- after n accepted inserts: from 1 to n, so finite, and last changed at the tick of one of them
pub record Weighed (n : ℕ) (w last : Float) : Type 0 where
  pub least : T (le one w)
  pub most : T (le w (whole n))
  pub when : Dated n last
  -- faded to any clock, by any lambda: at least 0 and at most what is stored
  pub faded : (lambda t : Float) → T (le nought (faded_to lambda t w last)) × T (le (faded_to lambda t w last) w)

-- of a micro-cluster: its mean has dim coordinates, and its weight is such a one
pub record KeptBody (n dim : ℕ) (b : Body) : Type 0 where
  pub mean : length b.cf.mean ≡ dim
  pub weight : Weighed n b.cf.w b.last
