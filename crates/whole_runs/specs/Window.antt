-- A whole run of a window in plain numbers. Definitions only.
use Rattle.std.specs.Prelude.{ℕ, ◌+◌, cond, List, [], ◌∷◌, Float}
use Rattle.adwin.specs.Window.{Window, new_of, update_of, width_of, mean_of, variance_of}
use Rattle.adwin.specs.History.{run_of}
use Rattle.whole_runs.specs.declared.window.WindowFigures.{WindowFigures}

-- how many of the updates ring
unfoldable pub alarms_in : Window → List Float → ℕ
unfolding update_of
alarms_in w [] = 0
alarms_in w (x ∷ xs) = cond (update_of w x).alarm 1 0 + alarms_in (update_of w x).window xs

abbrev pub figures_of : (alarms : ℕ) → Window → WindowFigures
figures_of alarms w = record { alarms = alarms; taken = w.taken; width = width_of w.sums; mean = mean_of w.sums; variance = variance_of w.sums }

-- an update by each value, from a fresh window
abbrev pub window_run : (delta : Float) → List Float → WindowFigures
window_run delta values = figures_of (alarms_in (new_of delta) values) (run_of (new_of delta) values)
