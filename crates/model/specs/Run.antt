-- Document 01, "A whole run": every insert of a list, of any stream. Definitions only.
use Rattle.std.specs.Prelude.{ℕ, ◌+◌, cond, List, [], ◌∷◌, Float}
use Rattle.model.specs.Answers.{is_done, Insertion}
use Rattle.model.specs.Outcome.{Outcome}

module _ {S : Type 0} (insert : S → List Float → Outcome S) where
  -- "Each insert .. gets the stream that the call before it gave back, refused or not"
  unfoldable pub run_of : S → List (List Float) → S
  run_of s [] = s
  run_of s (x ∷ xs) = run_of (insert s x).stream xs

  -- and what each of them was answered
  unfoldable pub answers_of : S → List (List Float) → List Insertion
  answers_of s [] = []
  answers_of s (x ∷ xs) = (insert s x).answer ∷ answers_of (insert s x).stream xs

-- how many of the inserts were accepted
abbrev pub one_if_done : Insertion → ℕ
one_if_done a = cond (is_done a) 1 0

abbrev pub accepted_in : List Insertion → ℕ
accepted_in [] = 0
accepted_in (a ∷ rest) = one_if_done a + accepted_in rest
