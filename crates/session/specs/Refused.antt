-- Document 01's number of a run that is refused. Definitions only.
use Rattle.std.specs.Prelude.{ℕ, cond, leb, Result, Ok, Err, ⊤}
use Rattle.model.specs.Answers.{Opening, open_error_number}
use Rattle.session.specs.declared.refusal.Refusal.{Refusal}
use Rattle.session.specs.declared.refusal.Refusal.TheVariants as refusal

abbrev pub refusal_number : Refusal → ℕ
refusal_number (refusal.Opening e) = open_error_number e
refusal_number (refusal.TooShort _) = 10

-- 0 of a run that is not
abbrev pub Run : Type 0
Run = Result ⊤ Refusal

abbrev pub run_number : Run → ℕ
run_number (Ok _) = 0
run_number (Err r) = refusal_number r

-- the opening is asked about first, then the slice lent for so many numbers
abbrev pub run_asked : Opening → (due places : ℕ) → Run
run_asked (Ok _) due places = cond (leb due places) (Ok tt) (Err (refusal.TooShort (record {})))
run_asked (Err e) due places = Err (refusal.Opening e)
