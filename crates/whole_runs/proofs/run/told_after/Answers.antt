-- `told_after` meets its contract. Assumes nothing.
use Rattle.std.proofs.Common.{ap₂, ◌∙◌}
use Rattle.model.specs.Stream.{cluster_of}
use Rattle.session.specs.Laws.Numbers.{number_of_run}
use Rattle.whole_runs.specs.Told.{iterate, figures_in}
use Rattle.whole_runs.proofs.run.told_after.Goals as goal

pub returns : goal.returns
returns g c =
    let a = c.args in
    let k = g.S.Stream in
    let last = iterate (cluster_of k.kind) a.rounds (k.view a.run.stream) in
    let number = number_of_run a.run.answer c.number_of-number.ensures in
    c.figures_of.ensures ∙ ap₂ (figures_in k.kind) {v = last} number c.clustered-last.ensures
