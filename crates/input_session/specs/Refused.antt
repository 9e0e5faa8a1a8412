-- Document 01's number of a session that is refused. Definitions only.
use Rattle.std.specs.Prelude.{ℕ, Result, Ok, Err, ⊤}
use Rattle.model.specs.Answers.{open_error_number, insert_error_number}
use Rattle.input_session.specs.declared.refusal.Refusal.{Refusal}
use Rattle.input_session.specs.declared.refusal.Refusal.TheVariants.{Input, Opening, Insertion}

abbrev pub refusal_number : Refusal → ℕ
refusal_number Input = 11
refusal_number (Opening e) = open_error_number e
refusal_number (Insertion e) = insert_error_number e

-- 0 of a session that is not
abbrev pub Run : Type 0
Run = Result ⊤ Refusal

abbrev pub run_number : Run → ℕ
run_number (Ok _) = 0
run_number (Err r) = refusal_number r
