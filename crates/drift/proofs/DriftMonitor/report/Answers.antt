-- `DriftMonitor::report` meets its contract. Assumes nothing.
use Rattle.drift.proofs.DriftMonitor.report.Goals as goal

pub returns : goal.returns
returns c = rw (c.mean.ensures, c.width.ensures)
