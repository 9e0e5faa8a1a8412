-- The number that `number_of` gives of an answer is that answer's. Assumes nothing.
use Rattle.std.specs.Prelude.{ℕ, ◌≡◌, Ok, Err, MatchResult}
use Rattle.model.specs.Answers.{Opening, Insertion, open_error_number, opening_number, insert_error_number, insertion_number}

pub number_of_opening : (a : Opening) {n : ℕ} → MatchResult a (λ _. n ≡ 0) (λ e. n ≡ open_error_number e) → n ≡ opening_number a
number_of_opening (Ok _) h = h
number_of_opening (Err e) h = h

pub number_of_insertion : (a : Insertion) {n : ℕ} → MatchResult a (λ _. n ≡ 0) (λ e. n ≡ insert_error_number e) → n ≡ insertion_number a
number_of_insertion (Ok _) h = h
number_of_insertion (Err e) h = h
