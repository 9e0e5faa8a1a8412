-- `faded_weight` meets its contract. Assumes nothing.
use Rattle.model.proofs.body.Body.faded_weight.Goals as goal

pub returns : goal.returns
returns c = c.faded.ensures
