-- What a whole run in code tells, its stream seen by a view: its number, the numbers of the inserts, and the stream. Definition only.
use Rattle.std.specs.Prelude.{ℕ, List}
use Rattle.session.specs.Refused.{run_number}
use Rattle.session.specs.Whole as whole
use Rattle.session.specs.declared.whole.Session.{Session}

abbrev pub told : {S V : Type 0} (view : S → V) → Session S → List ℕ → whole.Session V
told view o numbers = record { number = run_number o.answer; numbers = numbers; stream = view o.stream }
