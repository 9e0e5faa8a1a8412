-- What is done to a body in 15 places is done to that of dim coordinates which it is. Assumes nothing.
use Rattle.std.specs.Prelude.{◌≡◌, ℕ, ◌≤◌, List, length, Float}
use Rattle.std.proofs.Common.{ap, ◌∙◌}
use Rattle.feature.specs.declared.spherical.Spherical.{Spherical}
use Rattle.feature.specs.Feature.{max_dim, empty, decayed, pushed}
use Rattle.feature.specs.Fade.{fade_of}
use Rattle.feature.specs.Laws.Within.{pushed_within, empty_within}
use Rattle.model.specs.declared.body.Body.{Body}
use Rattle.model.specs.Body.{birth, absorbing, body_in}

module _ (dim : ℕ) (t : Float) (x : List Float) (e : length x ≡ dim) where
  pub birth_in : dim ≤ max_dim → body_in dim (birth max_dim t x) ≡ birth dim t x
  birth_in h =
      ap (λ (s : Spherical). record { cf = s; last = t }) (pushed_within dim (empty max_dim) x e ∙ ap (λ (s : Spherical). pushed s x) (empty_within dim h))

  pub absorbing_in : (lambda : Float) (b : Body) → body_in dim (absorbing lambda t x b) ≡ absorbing lambda t x (body_in dim b)
  absorbing_in lambda b = ap (λ (s : Spherical). record { cf = s; last = t }) (pushed_within dim (decayed b.cf (fade_of lambda t b.last)) x e)
