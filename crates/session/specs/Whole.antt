-- Document 01, "A whole run": an opening, every insert of a list, and cluster, of any stream. Definitions only.
use Rattle.std.specs.Prelude.{ℕ, List, [], ◌∷◌, map, eqb, Float}
use Rattle.model.specs.Answers.{opening_number, insertion_number}
use Rattle.model.specs.Questions.{first_no}
use Rattle.model.specs.ReadOut.{has_places, written}
use Rattle.model.specs.Outcome.{Opened, Outcome}
use Rattle.model.specs.Run.{run_of, answers_of}

-- 0 or the refusal's number (the opening's, or 10 where the lent slice is short), the slice afterwards, and the stream
pub record Session (S : Type 0) : Type 0 where
  pub number : ℕ
  pub numbers : List ℕ
  pub stream : S

-- "Each insert, and the cluster at the end, gets the stream that the call before it gave back, refused or not": 0 or its refusal's number for each insert
unfoldable pub session_of :
    {S : Type 0} (insert : S → List Float → Outcome S) (cluster : S → S) → Opened S → (points : List (List Float)) → (lent : List ℕ) → Session S
session_of insert cluster o points lent =
    let due : List ℕ = map insertion_number (answers_of insert o.stream points) in
    first_no
    ((eqb (opening_number o.answer) 0, record { number = opening_number o.answer; numbers = lent; stream = o.stream })
    ∷ (has_places due lent, record { number = 10; numbers = lent; stream = o.stream })
    ∷ [])
    (record { number = 0; numbers = written due lent; stream = cluster (run_of insert o.stream points) })
