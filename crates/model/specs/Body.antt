-- Document 01: what both streams keep of a micro-cluster, and do to it. Definitions only.
use Rattle.std.specs.Prelude.{ℕ, cond, List, Float}
use Rattle.std.specs.Float.Ieee.{lt}
use Rattle.float.specs.Rounded.{◌⊘◌, nought}
use Rattle.sqrt.specs.Root.{sqrt_of}
use Rattle.feature.specs.Distance.{sq_dist}
use Rattle.feature.specs.Feature.{empty, pushed, decayed, within}
use Rattle.feature.specs.Fade.{fade_of}
use Rattle.model.specs.declared.body.Body.{Body}
use Rattle.model.specs.Fading.{faded_to}

-- of one point
abbrev pub birth : (dim : ℕ) (t : Float) → List Float → Body
birth dim t x = record { cf = pushed (empty dim) x; last = t }

-- "fades to t and absorbs the point"
abbrev pub absorbing : (lambda t : Float) → List Float → Body → Body
absorbing lambda t x b = record { cf = pushed (decayed b.cf (fade_of lambda t b.last)) x; last = t }

-- the weight, faded to the clock t
abbrev pub faded_weight : (lambda t : Float) → Body → Float
faded_weight lambda t b = faded_to lambda t b.cf.w b.last

-- the squared distance of the mean from the point
abbrev pub distance_to : List Float → Body → Float
distance_to x b = sq_dist b.cf.mean x

-- the radius of `micro_stats` and `potential_stats`
abbrev pub radius_of : Body → Float
radius_of b = cond (lt nought b.cf.w) (sqrt_of (b.cf.ssd ⊘ b.cf.w)) nought

-- one that is kept in 15 places, as that of dim coordinates which it is
abbrev pub body_in : (dim : ℕ) → Body → Body
body_in dim b = record { cf = within dim b.cf; last = b.last }
