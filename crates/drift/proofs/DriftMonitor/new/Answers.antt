-- `DriftMonitor::new` meets its contract. Assumes nothing.
use Rattle.adwin.specs.Window.{Window}
use Rattle.std.proofs.Common.{ap}
use Rattle.drift.proofs.DriftMonitor.new.Goals as goal
use Rattle.std.specs.Prelude.{None}

pub returns : goal.returns
returns c = ap (λ (w : Window). record { window = w; radius = c.args.radius; alarms = 0; last_alarm = None }) c.new.ensures
