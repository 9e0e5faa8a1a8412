use Rattle.std.specs.Prelude.{◌≡◌}
use Rattle.model.specs.Stream.{cluster_of}
use Rattle.whole_runs.specs.Told.{iterate}
use Rattle.whole_runs.proofs.run.clustered.Given as goal

abbrev pub invariant-loop-round : goal.invariant-loop-round
invariant-loop-round g l =
    let k = g.S.Stream in
    k.view l.last ≡ iterate (cluster_of k.kind) l._round (k.view l.initial.last)
