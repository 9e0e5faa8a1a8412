-- `radius` meets its contract. Assumes nothing.
use Rattle.model.proofs.body.Body.radius.Goals as goal

pub returns-then-cf : goal.returns-then-cf
returns-then-cf c = rw (c.if-cf.true, c.sqrt.ensures)

pub returns-else-cf : goal.returns-else-cf
returns-else-cf c = rw c.if-cf.false
