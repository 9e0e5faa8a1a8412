-- `dbstream_run` meets its contract. Assumes nothing.
use Rattle.std.proofs.Common.{refl, ◌∙◌}
use Rattle.model.specs.Stream.{cluster_of}
use Rattle.model.specs.Dbstream.{dbstream}
use Rattle.session.specs.Points.{points_of}
use Rattle.whole_runs.specs.Told.{figures_in}
use Rattle.whole_runs.specs.Laws.Stream.{read_out, dbstream_told}
use Rattle.whole_runs.proofs.db.dbstream_run.Goals as goal

pub returns : goal.returns
returns c =
    let a = c.args in
    let run = c.dbstream_session.ensures.numbers_after in
    read_out (cluster_of dbstream) (figures_in dbstream) a.rounds _ _ _ _ run refl c.told_after.ensures
    ∙ dbstream_told _ (points_of a.lengths.now a.values.now) a.rounds a.numbers.now
