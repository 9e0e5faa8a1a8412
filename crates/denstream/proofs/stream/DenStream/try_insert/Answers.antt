-- `DenStream::try_insert` meets its contract. Assumes nothing.
use mathlib.Core.Path.{refl}
use Rattle.model.specs.Answers.{is_done}
use Rattle.model.specs.Denstream.{denstream}
use Rattle.model.proofs.Laws.Numbers.{inserted_as}
use Rattle.denstream.specs.View.{view}
use Rattle.denstream.proofs.stream.DenStream.try_insert.Goals as goal

pub returns-clause-said : goal.returns-clause-said
returns-clause-said c =
    let s = c.args.self in
    let answer = c.insert-answer in
    (inserted_as denstream (view s) c.args.x.now answer.result _ (is_done answer.result) s s answer.ensures.told refl (λ h. refl)).1.1
