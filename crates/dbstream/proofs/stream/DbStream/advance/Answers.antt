-- `DbStream::advance` meets its contract. Assumes nothing.
use Rattle.std.proofs.Common.{true, false, ap, refl, ◌∙◌}
use Rattle.model.specs.declared.clock.Clock.{Clock}
use Rattle.model.specs.Ticking.{tick_told, ticked_of}
use Rattle.model.proofs.Laws.Stream.{ticked}
use Rattle.model.specs.Dbstream.{dbstream}
use Rattle.dbstream.specs.View.{view}
use Rattle.dbstream.proofs.stream.DbStream.advance.Goals as goal

pub returns-then-ticked : goal.returns-then-ticked
returns-then-ticked c =
    let s = c.args.self.now in
    ticked dbstream (view s) c.args.near (tick_told c.tick-ticked.result)
    (c.tick-ticked.ensures ∙ ap (λ (q : Clock). ticked_of q (view s).drift c.args.near) c.at.ensures) true _ c.if-ticked.true c.clean.ensures

pub returns-else-ticked : goal.returns-else-ticked
returns-else-ticked c =
    let s = c.args.self.now in
    ticked dbstream (view s) c.args.near (tick_told c.tick-ticked.result)
    (c.tick-ticked.ensures ∙ ap (λ (q : Clock). ticked_of q (view s).drift c.args.near) c.at.ensures) false _ c.if-ticked.false refl
