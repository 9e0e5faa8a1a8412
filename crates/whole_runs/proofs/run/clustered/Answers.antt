-- `clustered` meets its contract. Assumes nothing.
use Rattle.std.proofs.Common.{ℕ, ◌≡◌, refl, arith, sym, ap, ◌∙◌}
use Rattle.model.specs.Stream.{cluster_of}
use Rattle.whole_runs.specs.Told.{iterate}
use Rattle.whole_runs.specs.Laws.Stream.{iterate_more}
use Rattle.whole_runs.proofs.run.clustered.Goals as goal

pub loop-round-init : goal.loop-round-init
unfolding iterate
loop-round-init g c = refl

pub loop-round-preserved : goal.loop-round-preserved
loop-round-preserved g c =
    let k = g.S.Stream in
    let f = cluster_of k.kind in
    c.cluster.ensures.stream_value ∙ ap f c.loop-round.invariant ∙ sym (iterate_more f c.loop-round._round (k.view c.args.stream))

pub returns : goal.returns
returns g c =
    let k = g.S.Stream in
    let all : c.loop-round._round ≡ c.args.rounds = omega (arith, c.loop-round.auto._round-end) in
    c.loop-round.invariant ∙ ap (λ (n : ℕ). iterate (cluster_of k.kind) n (k.view c.args.stream)) all
