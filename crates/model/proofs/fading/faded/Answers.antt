-- `faded` meets its contract. Assumes nothing.
use Rattle.model.proofs.fading.faded.Goals as goal

pub returns : goal.returns
returns c = rw c.fade.ensures.value
