-- `try_predict` meets its contract. Assumes nothing.
use Rattle.std.proofs.Common.{rules, refl, ap, ap₂, ◌∙◌, List, ℤ, min, map}
use Rattle.feature.specs.Feature.{max_dim}
use Rattle.model.specs.declared.body.Body.{Body}
use Rattle.model.specs.declared.micro.DbMicro.{DbMicro}
use Rattle.model.specs.ReadOut.{predict_of}
use Rattle.float.specs.Rounded.{◌⊗◌}
use Rattle.readout.specs.Laws.Seen.{bodies_are}
use Rattle.db_micro.specs.Held.{cut_to}
use Rattle.db_readout.proofs.try_predict.Goals as goal

pub returns : goal.returns
returns c =
    let s = c.args.stream.now in
    let d = min s.params.settings.dim max_dim in
    c.predict.ensures
    ∙ ap₂ (λ (l : List Body) (k : List ℤ). predict_of d (s.params.settings.r ⊗ s.params.settings.r) l k c.args.x.now)
    (bodies_are (λ (m : DbMicro). m.body) (cut_to d) s.params.settings.dim (λ m. refl) c.held.result.now
    ∙ ap (λ (ms : List DbMicro). map (λ (m : DbMicro). m.body) (map (cut_to d) ms)) c.held.ensures.value)
    (search rules)
