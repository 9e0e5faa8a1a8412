-- `label_for` meets its contract. Assumes nothing.
use Rattle.std.proofs.Common.{rules, sym, ap, ◌∙◌, ◌≡◌, Bool, cond, negsuc, get_or, unwrap_or, Some, None}
use Rattle.readout.proofs.Labelled.{label_differ, label_nearest, measured}
use Rattle.readout.proofs.prediction.label_for.Goals as goal

pub returns-then-labels-micros : goal.returns-then-labels-micros
returns-then-labels-micros g c =
    let a = c.args in label_differ a.radius2 a.labels.now a.dim g.M.Micro.body_of a.micros.now a.x.now c.if-labels-micros.true

pub returns-in_err-found : goal.returns-in_err-found
returns-in_err-found g c =
    let a = c.args in
    let d = measured a.radius2 a.labels.now a.dim g.M.Micro.body_of a.micros.now a.x.now in
    rw c.from_residual.ensures
    (label_nearest a.radius2 a.labels.now a.dim g.M.Micro.body_of a.micros.now a.x.now c.if-labels-micros.false None
    (c.in_err-found.ensures d (λ m b k. search rules)))

pub returns-then-found-radius2 : goal.returns-then-found-radius2
returns-then-found-radius2 g c =
    let a = c.args in
    let d = measured a.radius2 a.labels.now a.dim g.M.Micro.body_of a.micros.now a.x.now in
    let f = c.in_ok-found.found in
    let l : unwrap_or c.copied.result (negsuc 0) ≡ get_or a.labels.now f.place (negsuc 0) = search rules in
    l ∙ sym (ap (λ (b : Bool). cond b (get_or a.labels.now f.place (negsuc 0)) (negsuc 0)) c.if-found-radius2.true)
    ∙ label_nearest a.radius2 a.labels.now a.dim g.M.Micro.body_of a.micros.now a.x.now c.if-labels-micros.false (Some f)
    (c.in_ok-found.ensures d (λ m b k. search rules))

pub returns-else-found-radius2 : goal.returns-else-found-radius2
returns-else-found-radius2 g c =
    let a = c.args in
    let d = measured a.radius2 a.labels.now a.dim g.M.Micro.body_of a.micros.now a.x.now in
    let f = c.in_ok-found.found in
    sym (ap (λ (b : Bool). cond b (get_or a.labels.now f.place (negsuc 0)) (negsuc 0)) c.if-found-radius2.false)
    ∙ label_nearest a.radius2 a.labels.now a.dim g.M.Micro.body_of a.micros.now a.x.now c.if-labels-micros.false (Some f)
    (c.in_ok-found.ensures d (λ m b k. search rules))
