-- `micro_stats` meets its contract. Assumes nothing.
use Rattle.std.proofs.Common.{refl, ap, ◌∙◌, List, min, map}
use Rattle.std.proofs.lemmas.List.{take_all}
use Rattle.feature.specs.Feature.{max_dim}
use Rattle.model.specs.declared.body.Body.{Body}
use Rattle.model.specs.declared.micro.DbMicro.{DbMicro}
use Rattle.model.specs.Limits.{micros_most}
use Rattle.model.specs.ReadOut.{statistics_read}
use Rattle.readout.specs.Laws.Seen.{bodies_are}
use Rattle.db_micro.specs.Held.{cut_to}
use Rattle.db_readout.proofs.micro_stats.Goals as goal

pub returns : goal.returns
returns c =
    let a = c.args in
    let s = a.stream.now in
    let d = min s.params.settings.dim max_dim in
    let ms = c.held.result.now in
    c.statistics.ensures
    ∙ ap (λ (l : List Body). statistics_read s.params.settings.lambda s.t l a.centres.now a.weights.now a.radii.now)
    (bodies_are (λ (m : DbMicro). m.body) (cut_to d) s.params.settings.dim (λ m. refl) _
    ∙ ap (λ (l : List DbMicro). map (λ (m : DbMicro). m.body) (map (cut_to d) l)) (take_all micros_most ms c.held.ensures.few ∙ c.held.ensures.value))
