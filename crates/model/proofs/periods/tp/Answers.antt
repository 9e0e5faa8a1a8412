-- `tp` meets its contract. Assumes nothing.
use Rattle.model.proofs.periods.tp.Goals as goal

pub returns : goal.returns
returns c = rw (c.max.ensures, c.ceil.ensures, c.log2.ensures)
