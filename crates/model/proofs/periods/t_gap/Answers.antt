-- `t_gap` meets its contract. Assumes nothing.
use Rattle.model.proofs.periods.t_gap.Goals as goal

pub returns : goal.returns
returns c = rw (c.max.ensures, c.ceil.ensures)
