-- `DbStream::clean` meets its contract. Assumes nothing.
use Rattle.std.proofs.Common.{◌≡◌, ◌≤◌, List, length, ap, ◌∙◌, rules, arith}
use Rattle.std.proofs.lemmas.List.{take-append-le}
use Rattle.lists.specs.Retain.{retain}
use Rattle.lists.specs.Laws.Rest.{cut_take}
use Rattle.model.specs.Limits.{micros_most}
use Rattle.model.specs.declared.micro.DbMicro.{DbMicro}
use Rattle.model.specs.DbInsert.{micro_stays}
use Rattle.dbstream.proofs.Cleanups.{cleaned}
use Rattle.dbstream.proofs.stream.DbStream.clean.Goals as goal

pub returns : goal.returns
returns c =
    let s = c.args.self.now in
    let kept = c.retained-self in
    let places : length s.micros ≡ micros_most = search rules in
    let fits : kept.result ≤ length kept.new.micros = omega (arith, kept.auto.micros, kept.ensures.few) in
    cleaned s kept.result _ c.links_left-self.result c.links_left-self.new.links
    (take-append-le kept.result kept.new.micros _ fits ∙ kept.ensures.kept
    ∙ ap (λ (l : List DbMicro). retain (micro_stays s.params.settings.lambda s.params.floor s.t) l) (cut_take c.min-n.result s.count micros_most s.micros c.min-n.ensures places))
    c.links_left-self.ensures
