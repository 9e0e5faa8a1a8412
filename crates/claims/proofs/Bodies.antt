-- One micro-cluster's body, of either stream, through an insert.
use Prim.Native.Nat.{ℕ, ◌+◌, ◌≤◌}
use mathlib.Core.Path.{◌∙◌}
use mathlib.Core.List.{List}
use lib.ListN.{length-replicate}
use lib.Ieee.{Float}
use Rattle.float.specs.Rounded.{nought}
use Rattle.feature.specs.Feature.{empty}
use Rattle.model.specs.declared.body.Body.{Body}
use Rattle.model.specs.Limits.{clock_most}
use Rattle.model.specs.Body.{birth, absorbing}
use Rattle.claims.specs.Clock.{Counts}
use Rattle.claims.specs.Weighed.{Weighed, KeptBody}
use Rattle.claims.proofs.Means.{moved_length}
use Rattle.claims.proofs.Weights.{later, gains_one, regains, above_0, zero_most, zero_least}

-- a body that no point joins stays kept
pub body_later : (n dim : ℕ) (b : Body) → n ≤ clock_most → KeptBody n dim b → KeptBody (n + 1) dim b
body_later n dim b h k = record { mean = k.mean; weight = later n b.cf.w b.last h k.weight }

module _ (n dim : ℕ) (t : Float) (x : List Float) (c : Counts n t) where
  -- a body that a point joins
  pub body_absorbing : (lambda : Float) (b : Body) → KeptBody n dim b → KeptBody (n + 1) dim (absorbing lambda t x b)
  body_absorbing lambda b k =
      let w : Weighed n b.cf.w b.last = k.weight in
      record { mean = moved_length _ b.cf.mean x ∙ k.mean; weight = regains n b.cf.w b.last lambda t c (above_0 b.cf.w w.least) w.most }

  -- the body of a new micro-cluster
  pub body_birth : KeptBody (n + 1) dim (birth dim t x)
  body_birth =
      record { mean = moved_length _ (empty dim).mean x ∙ length-replicate dim nought; weight = gains_one n nought t c zero_least (zero_most n c.limit) }
