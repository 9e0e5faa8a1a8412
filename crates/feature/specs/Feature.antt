-- Document 01, Feature: "Weight w, mean, ssd." Definitions only.
use Rattle.std.specs.Prelude.{List, [], ◌∷◌, ℕ, Float, take, replicate}
use Rattle.float.specs.Rounded.{◌⊕◌, ◌⊖◌, ◌⊗◌, ◌⊘◌, nought, one}
use Rattle.feature.specs.Distance.{sq_dist}
use Rattle.feature.specs.declared.spherical.Spherical.{Spherical}

-- "1 ≤ dim ≤ 15"
abbrev pub max_dim : ℕ
max_dim = 15

-- "Decay multiplies w and ssd."
abbrev pub decayed : Spherical → Float → Spherical
decayed s f = record { w = s.w ⊗ f; mean = s.mean; ssd = s.ssd ⊗ f }

-- "each coordinate in index order has d = x−m, .. m [grows] by factor×d"
unfoldable pub moved : Float → List Float → List Float → List Float
moved factor [] xs = []
moved factor (m ∷ ms) [] = m ∷ ms
moved factor (m ∷ ms) (x ∷ xs) = (m ⊕ factor ⊗ (x ⊖ m)) ∷ moved factor ms xs

-- "Pushing x with weight 1: W = w+1, factor = 1/W, c = 1×(1−1/W); n starts at 0; .. n grows by d×d, m by factor×d; then ssd grows by c×n."
abbrev pub pushed : Spherical → List Float → Spherical
pushed s x =
    record {
      w = s.w ⊕ one;
      mean = moved (one ⊘ (s.w ⊕ one)) s.mean x;
      ssd = s.ssd ⊕ one ⊗ (one ⊖ one ⊘ (s.w ⊕ one)) ⊗ sq_dist x s.mean;
    }

-- a feature of no points, in dim coordinates
abbrev pub empty : ℕ → Spherical
empty dim = record { w = nought; mean = replicate dim nought; ssd = nought }

-- a feature that is kept in 15 places, as the feature of dim coordinates that it is
abbrev pub within : ℕ → Spherical → Spherical
within dim s = record { w = s.w; mean = take dim s.mean; ssd = s.ssd }
