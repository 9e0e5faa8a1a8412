-- `try_predict` meets its contract. Assumes nothing.
use Rattle.std.proofs.Common.{rules, refl, ap, ap₂, ◌∙◌, List, ℤ, min, map}
use Rattle.feature.specs.Feature.{max_dim}
use Rattle.model.specs.declared.body.Body.{Body}
use Rattle.model.specs.declared.micro.DenMicro.{DenMicro}
use Rattle.model.specs.ReadOut.{predict_of}
use Rattle.readout.specs.Laws.Seen.{bodies_are}
use Rattle.den_pool.specs.Held.{micro_in}
use Rattle.denstream.specs.View.{held_in}
use Rattle.den_readout.proofs.try_predict.Goals as goal

pub returns : goal.returns
unfolding held_in
returns c =
    let s = c.args.stream.now in
    let d = min s.params.settings.dim max_dim in
    c.predict.ensures
    ∙ ap₂ (λ (l : List Body) (k : List ℤ). predict_of d s.params.eps2 l k c.args.x.now)
    (bodies_are (λ (m : DenMicro). m.body) (micro_in d) s.params.settings.dim (λ m. refl) c.potential.result.now
    ∙ ap (λ (ms : List DenMicro). map (λ (m : DenMicro). m.body) (map (micro_in d) ms)) c.potential.ensures)
    (search rules)
