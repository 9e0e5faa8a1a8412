-- What the loop of `window_run` keeps: what was done and what is left make up the whole run.
use Rattle.adwin.specs.Window.{new_of}
use Rattle.adwin.specs.View.{view}
use Rattle.whole_runs.specs.Laws.Window.{Going}
use Rattle.whole_runs.proofs.window.window_run.Given as goal

abbrev pub invariant-loop-value : goal.invariant-loop-value
invariant-loop-value l = Going l.values (new_of l.delta) (view l.window) l.alarms l.value-index
