-- What the code's answers tell, its stream seen by a view. Definitions only.
use Rattle.model.specs.Outcome as outcome
use Rattle.model.specs.declared.stream.Opened.{Opened}
use Rattle.model.specs.declared.stream.Inserted.{Inserted}

-- an opening, and an insert
abbrev pub opened_told : {S V : Type 0} (view : S → V) → Opened S → outcome.Opened V
opened_told view o = record { answer = o.answer; stream = view o.stream }

abbrev pub inserted_told : {S V : Type 0} (view : S → V) → Inserted S → outcome.Outcome V
inserted_told view r = record { answer = r.answer; stream = view r.stream }
