-- `potential_stats` meets its contract. Assumes nothing.
use Rattle.std.proofs.Common.{refl, ap, ◌∙◌, ◌≤◌, List, min, map, length, length-take, arith}
use Rattle.std.proofs.lemmas.List.{take_all}
use Rattle.feature.specs.Feature.{max_dim}
use Rattle.model.specs.declared.body.Body.{Body}
use Rattle.model.specs.declared.micro.DenMicro.{DenMicro}
use Rattle.model.specs.Limits.{micros_most}
use Rattle.model.specs.ReadOut.{statistics_read}
use Rattle.readout.specs.Laws.Seen.{bodies_are}
use Rattle.den_pool.specs.Held.{micro_in}
use Rattle.den_placement.specs.Pools.{potential_held}
use Rattle.denstream.specs.View.{held_in}
use Rattle.den_readout.proofs.potential_stats.Goals as goal

pub returns : goal.returns
unfolding held_in
returns c =
    let a = c.args in
    let s = a.stream.now in
    let d = min s.params.settings.dim max_dim in
    let ms = c.potential.result.now in
    let few : length ms ≤ micros_most = omega (arith, ap length c.potential.ensures, length-take (potential_held s.potential_count) s.potential) in
    c.statistics.ensures
    ∙ ap (λ (l : List Body). statistics_read s.params.settings.lambda s.t l a.centres.now a.weights.now a.radii.now)
    (bodies_are (λ (m : DenMicro). m.body) (micro_in d) s.params.settings.dim (λ m. refl) _
    ∙ ap (λ (l : List DenMicro). map (λ (m : DenMicro). m.body) (map (micro_in d) l)) (take_all micros_most ms few ∙ c.potential.ensures))
