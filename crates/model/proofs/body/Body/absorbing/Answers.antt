-- `absorbing` meets its contract. Assumes nothing.
use Rattle.model.proofs.body.Body.absorbing.Goals as goal

pub returns : goal.returns
returns c = rw (c.push.ensures, c.decay-faded.ensures, c.fade.ensures.value)
