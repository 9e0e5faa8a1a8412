-- `window_run` meets its contract. Assumes nothing.
use mathlib.Core.Path.{◌≡◌, refl, sym, subst, ap, ◌∙◌}
use mathlib.Core.Bool.{Bool, true, false, cond}
use Rattle.std.specs.Int.{from_bool}
use Rattle.adwin.specs.Window.{Window, Outcome, new_of}
use Rattle.adwin.specs.View.{view}
use Rattle.whole_runs.specs.Laws.Window.{Going, going_start, going_on, going_end, run_figures}
use Rattle.whole_runs.proofs.window.window_run.Goals as goal

one_if : (b : Bool) → from_bool b ≡ cond b 1 0
one_if true = refl
one_if false = refl

pub loop-value-init : goal.loop-value-init
loop-value-init c =
    let a = c.args in
    subst (λ (w : Window). Going a.values.now (new_of a.delta) w 0 0) (sym c.new-window.ensures) (going_start a.values.now (new_of a.delta))

pub loop-value-preserved : goal.loop-value-preserved
loop-value-preserved c =
    let a = c.args in
    let l = c.loop-value in
    let u = c.update-answer in
    going_on a.values.now (new_of a.delta) (view l.window) (view u.result.window) l.alarms l.value-index c.from-alarms.result _
    l.invariant c.loop-value-test.true
    (ap (λ (o : Outcome). o.window) u.ensures.result_value)
    (c.from-alarms.ensures ∙ ap from_bool (c.rings.ensures ∙ ap (λ (o : Outcome). o.alarm) u.ensures.result_value) ∙ one_if _)

pub returns : goal.returns
returns c =
    let a = c.args in
    let l = c.loop-value in
    let e = going_end a.values.now (new_of a.delta) (view l.window) l.alarms l.value-index l.invariant c.loop-value-test.false in
    run_figures a.values.now (new_of a.delta) (view l.window) _ _ _ _ e c.width.ensures c.mean.ensures c.variance.ensures
