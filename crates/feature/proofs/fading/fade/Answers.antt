-- `fade` meets its contract. Assumes nothing.
use mathlib.Core.Path.{refl}
use Rattle.feature.specs.Laws.Fade.{fade_is_share}
use Rattle.feature.proofs.fading.fade.Goals as goal

pub returns : goal.returns
returns c =
    let a = c.args in rw c.exp2.ensures (record { value = refl; share = fade_is_share a.lambda a.t a.last })
