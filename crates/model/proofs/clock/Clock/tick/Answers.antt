-- `Clock::tick` meets its contract. Assumes nothing.
use Rattle.model.proofs.clock.Clock.tick.Goals as goal

pub returns : goal.returns
returns c = rw (c.observe-drift.ensures.result_value, c.is_multiple-due.ensures)
