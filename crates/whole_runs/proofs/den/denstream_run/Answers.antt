-- `denstream_run` meets its contract. Assumes nothing.
use Rattle.std.proofs.Common.{refl, ◌∙◌}
use Rattle.model.specs.Stream.{cluster_of}
use Rattle.model.specs.Denstream.{denstream}
use Rattle.session.specs.Points.{points_of}
use Rattle.whole_runs.specs.Told.{figures_in}
use Rattle.whole_runs.specs.Laws.Stream.{read_out, denstream_told}
use Rattle.whole_runs.proofs.den.denstream_run.Goals as goal

pub returns : goal.returns
returns c =
    let a = c.args in
    let run = c.denstream_session.ensures.numbers_after in
    read_out (cluster_of denstream) (figures_in denstream) a.rounds _ _ _ _ run refl c.told_after.ensures
    ∙ denstream_told _ (points_of a.lengths.now a.values.now) a.rounds a.numbers.now
