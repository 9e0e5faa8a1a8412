-- The bodies that are seen are those of the micro-clusters, of dim coordinates. Assumes nothing.
use Rattle.std.specs.Prelude.{ℕ, min, ◌≡◌, refl, List, [], ◌∷◌, map}
use Rattle.std.proofs.Common.{ap₂}
use Rattle.feature.specs.Feature.{max_dim}
use Rattle.model.specs.declared.body.Body.{Body}
use Rattle.model.specs.Body.{body_in}
use Rattle.readout.specs.Seen.{seen}

-- of either stream: body is what a micro-cluster has of it, cut the micro-cluster of dim coordinates that it is
module _ {A : Type 0} (body : A → Body) (cut : A → A) (dim : ℕ) (same : (m : A) → body_in (min dim max_dim) (body m) ≡ body (cut m)) where
  pub bodies_are : (ms : List A) → seen dim body ms ≡ map body (map cut ms)
  bodies_are [] = refl
  bodies_are (m ∷ ms) = ap₂ ◌∷◌ (same m) (bodies_are ms)
