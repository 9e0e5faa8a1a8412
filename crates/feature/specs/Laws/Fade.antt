-- Document 01, Fade: "It is never above 1 nor below 0." Assumes nothing.
use Rattle.std.specs.Prelude.{Float}
use Rattle.std.specs.Float.Ieee.{neg}
use Rattle.float.specs.Rounded.{◌⊖◌, ◌⊗◌}
use Rattle.float.specs.Laws.Between.{between_0_and_1}
use Rattle.feature.specs.Fade.{fade_of, Share}

-- "It is never above 1 nor below 0."
pub fade_is_share : (lambda t last : Float) → Share (fade_of lambda t last)
fade_is_share lambda t last =
    let b = between_0_and_1 (neg lambda ⊗ (t ⊖ last)) in
    record { least = b.0; most = b.1 }
