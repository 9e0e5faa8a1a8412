-- `birth` meets its contract. Assumes nothing.
use Rattle.model.proofs.body.Body.birth.Goals as goal

pub returns : goal.returns
returns c = rw (c.push.ensures, c.new.ensures)
