-- `DbStream::try_insert` meets its contract. Assumes nothing.
use mathlib.Core.Path.{refl}
use Rattle.model.specs.Answers.{is_done}
use Rattle.model.specs.Dbstream.{dbstream}
use Rattle.model.proofs.Laws.Numbers.{inserted_as}
use Rattle.dbstream.specs.View.{view}
use Rattle.dbstream.proofs.stream.DbStream.try_insert.Goals as goal

pub returns-clause-said : goal.returns-clause-said
returns-clause-said c =
    let s = c.args.self in
    let answer = c.insert-answer in
    (inserted_as dbstream (view s) c.args.x.now answer.result _ (is_done answer.result) s s answer.ensures.told refl (λ h. refl)).1.1
