-- `denstream_session` meets its contract. Assumes nothing.
use Rattle.std.proofs.Common.{ap}
use Rattle.model.specs.Denstream.{denstream}
use Rattle.claims.specs.DenClaims.{LabelsTellGroups, OneStream}
use Rattle.session.specs.Refused.{run_number}
use Rattle.session.specs.Demand3.{demand_3}
use Rattle.session.proofs.Laws.Runs.{run_told}
use Rattle.session.proofs.den.denstream_session.Goals as goal

pub returns : goal.returns
returns c =
    let a = c.args in
    let e = c.whole_run.ensures in
    let told = run_told denstream LabelsTellGroups OneStream (λ p h xs. let d = demand_3.denstream.one p h xs in (d, d.labels))
    a.settings a.lengths.now a.values.now a.numbers.now _ e in
    record { numbers_after = e; demand = λ z. told (ap run_number z) }
