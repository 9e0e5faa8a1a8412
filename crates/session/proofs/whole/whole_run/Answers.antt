-- `whole_run` meets its contract. Assumes nothing.
use Rattle.std.specs.Prelude.{Err}
use Rattle.std.proofs.Common.{sym, ◌∙◌}
use Rattle.model.specs.Stream.{insert_of, cluster_of}
use Rattle.session.specs.Laws.Cases.{answered, ran}
use Rattle.session.proofs.whole.whole_run.Goals as goal

pub returns-in-Err : goal.returns-in-Err
returns-in-Err g c =
    let a = c.args in
    let k = g.S.Stream.kind in
    answered (insert_of k) (cluster_of k) a.lengths.now a.values.now a.numbers.now c.open-opening.ensures
    (Err c.in-Err.refusal) (sym c.in-Err.is ∙ c.asked.ensures)

pub returns : goal.returns
returns g c =
    let a = c.args in
    let k = g.S.Stream.kind in
    let r = c.inserts-run.ensures in
    ran (insert_of k) (cluster_of k) a.lengths.now a.values.now a.numbers.now c.open-opening.ensures _ _ _
    (sym c.in_default.is ∙ c.asked.ensures) r.numbers_after r.result_value c.cluster.ensures.stream_value
