-- `floor` meets its contract. Assumes nothing.
use Rattle.model.proofs.periods.floor.Goals as goal

pub returns : goal.returns
returns c = rw (c.exp2.ensures, c.t_gap.ensures)
