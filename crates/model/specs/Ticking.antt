-- Document 01, "Tick: drift monitor, then t grows by 1, then, if t is a multiple of t_gap, cleanup", of both streams. Definitions only.
use Rattle.std.specs.Prelude.{Bool, Float}
use Rattle.float.specs.Rounded.{◌⊕◌, one}
use Rattle.drift.specs.Monitor.{Monitor, view, observe_of, Nearest}
use Rattle.model.specs.declared.clock.Clock.{Clock}
use Rattle.model.specs.declared.clock.Ticked.{Ticked}
use Rattle.model.specs.Fading.{is_multiple}

-- the time and the monitor after a tick, and whether a pruning is due
pub record Tick : Type 0 where
  pub t : Float
  pub drift : Monitor
  pub due : Bool

abbrev pub tick_told : Ticked → Tick
tick_told r = record { t = r.t; drift = view r.drift; due = r.due }

abbrev pub ticked_of : Clock → Monitor → Nearest → Tick
ticked_of c monitor near = record { t = c.t ⊕ one; drift = observe_of monitor near c.t; due = is_multiple (c.t ⊕ one) c.period }
