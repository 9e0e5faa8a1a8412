-- `predict` meets its contract. Assumes nothing.
use Rattle.std.proofs.Common.{arith, rules, ◌≡◌, take}
use Rattle.model.specs.Laws.Insert.{point_is}
use Rattle.readout.proofs.prediction.predict.Goals as goal

pub returns : goal.returns
returns g c =
    let a = c.args in
    let p = c.padded-point in
    let w = c.min-expected in
    let same : take w.result p.result ≡ a.x.now = point_is a.x.now p.result w.result c.if-got-expected.false (omega (arith, w.ensures)) p.ensures in
    let said = rw same at c.label_for.ensures in
    search rules
