-- `new` meets its contract. Assumes nothing.
use Rattle.model.proofs.body.Body.new.Goals as goal

pub returns : goal.returns
returns c = rw c.new.ensures
