-- The drift monitor: what it keeps, an observation, and its report. Definitions only.
use Rattle.std.specs.Prelude.{ℕ, ◌+◌, ◌%◌, ◌^◌, cond, from_bits, Float, None, Some, Option}
use Rattle.std.specs.Float.{binary64}
use Rattle.float.specs.Rounded.{◌⊘◌}
use Rattle.sqrt.specs.Root.{sqrt_of}
use Rattle.adwin.specs.Window as window
use Rattle.adwin.specs.View as window-view
use Rattle.adwin.specs.Window.{Window, Outcome, update_of, mean_of, width_of}
use Rattle.drift.specs.declared.DriftReport.{DriftReport}
use Rattle.drift.specs.declared.DriftMonitor.{DriftMonitor}

-- the nearest squared distance, where there is one
abbrev pub Nearest : Type 0
Nearest = Option Float

-- "the last alarm is either absent or the tick at which it rang"
abbrev pub LastAlarm : Type 0
LastAlarm = Option Float

-- the window, the radius that distances are counted in, the alarms, and the tick of the last
pub record Monitor : Type 0 where
  pub window : Window
  pub radius : Float
  pub alarms : ℕ
  pub last_alarm : LastAlarm

-- Document 01, Drift: "delta 0.002 here"
abbrev pub delta : Float
delta = from_bits binary64 0x3f60_624d_d2f1_a9fc

-- "Fresh .. an empty window, no alarm"
abbrev pub new_of : Float → Monitor
new_of radius = record { window = window.new_of delta; radius = radius; alarms = 0; last_alarm = None }

-- "alarms counts those updates, and the tick of one is the clock before it grows". The count is a u64, whose end no stream reaches.
abbrev pub heard : Monitor → Outcome → Float → Monitor
heard m r t = record {
  window = r.window;
  radius = m.radius;
  alarms = cond r.alarm ((m.alarms + 1) % 2 ^ 64) m.alarms;
  last_alarm = cond r.alarm (Some t) m.last_alarm;
}

-- "A stream's monitor observes sqrt(nearest squared distance)/radius." "Without a nearest distance the monitor returns untouched."
abbrev pub observe_of : Monitor → Nearest → Float → Monitor
observe_of m None t = m
observe_of m (Some d2) t = heard m (update_of m.window (sqrt_of d2 ⊘ m.radius)) t

-- "Its report gives alarms, the window's mean (total/width, 0 when empty) and width; the last alarm is either absent or the tick at which it rang."
abbrev pub report_of : Monitor → DriftReport
report_of m = record { alarms = m.alarms; last_alarm = m.last_alarm; distance = mean_of m.window.sums; window = width_of m.window.sums }

-- the monitor that the struct is
abbrev pub view : DriftMonitor → Monitor
view m = record { window = window-view.view m.adwin; radius = m.radius; alarms = m.alarms; last_alarm = m.last_alarm }
