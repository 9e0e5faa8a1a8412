-- Document 01, `families`: the session that an input gives. Definitions only.
use Rattle.std.specs.Prelude.{ℕ, cond, List, [], ◌∷◌, Float, Ok}
use Rattle.model.specs.Answers.{opening_number, is_open, insertion_number, is_done}
use Rattle.model.specs.Outcome.{Opened, Outcome}
use Rattle.model.specs.Stream.{insert_by}
use Rattle.model.specs.DbState.{State}
use Rattle.model.specs.Dbstream.{open_of, insert_of}
use Rattle.input_session.specs.Input.{settings_in, points_in, is_whole}

-- "stops at the first refusal, an insert's included"
unfoldable pub insert_all : State → List (List Float) → Outcome State
unfolding insert_by
insert_all s [] = record { answer = Ok tt; stream = s }
insert_all s (x ∷ xs) = cond (is_done (insert_of s x).answer) (insert_all (insert_of s x).stream xs) (insert_of s x)

-- the number of the first refusal, 0 where there is none, and the stream as far as it came
pub record Ran : Type 0 where
  pub number : ℕ
  pub stream : State

abbrev pub ran : ℕ → State → Ran
ran number stream = record { number = number; stream = stream }

abbrev pub inserted_ran : Outcome State → Ran
inserted_ran o = ran (insertion_number o.answer) o.stream

abbrev pub opened_ran : Opened State → List (List Float) → Ran
opened_ran o points = cond (is_open o.answer) (inserted_ran (insert_all o.stream points)) (ran (opening_number o.answer) o.stream)

-- "It asks for 11 before opening"
unfoldable pub ran_of : List ℕ → Ran
unfolding insert_all
ran_of bytes = cond (is_whole bytes) (opened_ran (open_of (settings_in bytes)) (points_in bytes)) (ran 11 (open_of (settings_in bytes)).stream)
