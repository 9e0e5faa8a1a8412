-- The number that `number_of` gives of a run's answer is that answer's. Assumes nothing.
use Rattle.std.specs.Prelude.{ℕ, ◌≡◌, Ok, Err, MatchResult}
use Rattle.session.specs.Refused.{Run, run_number, refusal_number}

pub number_of_run : (a : Run) {n : ℕ} → MatchResult a (λ _. n ≡ 0) (λ r. n ≡ refusal_number r) → n ≡ run_number a
number_of_run (Ok _) h = h
number_of_run (Err r) h = h
