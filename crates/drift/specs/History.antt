-- The monitor told from the list of its observations. Definitions only; `Laws/History.antt` has what holds of them.
use Rattle.std.specs.Prelude.{◌≡◌, cond, List, [], ◌∷◌, ◌++◌, length, Float, None, Some}
use Rattle.float.specs.Rounded.{◌⊘◌}
use Rattle.sqrt.specs.Root.{sqrt_of}
use Rattle.adwin.specs.Window as window
use Rattle.adwin.specs.Window.{Window, Outcome, quiet, update_of}
use Rattle.adwin.specs.History.{run_of, Told}
use Rattle.drift.specs.Monitor.{Monitor, observe_of, delta, LastAlarm, Nearest}

-- one observation: the nearest squared distance, and the clock before it grows
pub record Seen : Type 0 where
  pub nearest : Nearest
  pub tick : Float

-- the monitor after a list of observations
unfoldable pub watch_of : Monitor → List Seen → Monitor
unfolding update_of
watch_of m [] = m
watch_of m (o ∷ l) = watch_of (observe_of m o.nearest o.tick) l

-- the values that the window gets: none without a nearest distance
abbrev pub given : Float → Nearest → List Float
given radius None = []
given radius (Some d2) = sqrt_of d2 ⊘ radius ∷ []

-- the values that a list of observations gives the window
unfoldable pub values_seen : Float → List Seen → List Float
values_seen radius [] = []
values_seen radius (o ∷ l) = given radius o.nearest ++ values_seen radius l

-- the window's answer to an observation
abbrev pub answer_to : Window → Float → Nearest → Outcome
answer_to w radius None = quiet w
answer_to w radius (Some d2) = update_of w (sqrt_of d2 ⊘ radius)

-- the ticks of the updates that ring
unfoldable pub rings_in : Window → Float → List Seen → List Float
unfolding update_of
rings_in w radius [] = []
rings_in w radius (o ∷ l) =
    cond (answer_to w radius o.nearest).alarm (o.tick ∷ []) [] ++ rings_in (answer_to w radius o.nearest).window radius l

-- the last of them, or what was there before
abbrev pub last_of : LastAlarm → List Float → LastAlarm
last_of a [] = a
last_of a (t ∷ l) = last_of (Some t) l

-- "alarms counts those updates", and the last alarm is the tick of the last one; the window is that of the values seen
pub record Heard (radius : Float) (l : List Seen) (m : Monitor) : Type 0 where
  pub alarms : m.alarms ≡ length (rings_in (window.new_of delta) radius l)
  pub last_alarm : m.last_alarm ≡ last_of None (rings_in (window.new_of delta) radius l)
  pub window : m.window ≡ run_of (window.new_of delta) (values_seen radius l)
  pub told : Told delta (values_seen radius l) m.window
