-- `DenStream::advance` meets its contract. Assumes nothing.
use mathlib.Core.Path.{◌≡◌, refl, ap, ◌∙◌}
use mathlib.Core.Bool.{true, false}
use Rattle.model.specs.declared.clock.Clock.{Clock}
use Rattle.model.specs.Ticking.{tick_told, ticked_of}
use Rattle.model.proofs.Laws.Stream.{ticked}
use Rattle.model.specs.Denstream.{denstream}
use Rattle.denstream.specs.View.{view, held_in}
use Rattle.denstream.proofs.stream.DenStream.advance.Goals.{After-tick-ticked}
use Rattle.denstream.proofs.stream.DenStream.advance.Goals as goal

-- what the clock tells
told :
    (c : goal.After-tick-ticked) →
    let s = c.args.self.now in
    tick_told c.tick-ticked.result ≡ ticked_of (record { t = s.t; period = s.params.tp }) (view s).drift c.args.near
told c =
    let a = c.args in
    c.tick-ticked.ensures ∙ ap (λ (q : Clock). ticked_of q (view a.self.now).drift a.near) c.at-clock.ensures

pub returns-then-ticked : goal.returns-then-ticked
unfolding held_in
returns-then-ticked c =
    let a = c.args in
    ticked denstream (view a.self.now) a.near (tick_told c.tick-ticked.result) (told (goal.at.returns-then-ticked c).After-tick-ticked) true
    _ c.if-ticked.true c.prune.ensures

pub returns-else-ticked : goal.returns-else-ticked
unfolding held_in
returns-else-ticked c =
    let a = c.args in
    ticked denstream (view a.self.now) a.near (tick_told c.tick-ticked.result) (told (goal.at.returns-else-ticked c).After-tick-ticked) false _ c.if-ticked.false refl
