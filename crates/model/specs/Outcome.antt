-- Document 01: what an opening and an insert give back, of any stream. Definitions only.
use Rattle.std.specs.Prelude.{cond}
use Rattle.model.specs.Answers.{is_open, is_done, Insertion, Opening}

pub record Opened (S : Type 0) : Type 0 where
  pub answer : Opening
  pub stream : S

-- an accepted opening gives a fresh stream; beside a refusal stands one that was never opened
abbrev pub opened : {S : Type 0} → Opening → (fresh unopened : S) → Opened S
opened a fresh unopened = record { answer = a; stream = cond (is_open a) fresh unopened }

pub record Outcome (S : Type 0) : Type 0 where
  pub answer : Insertion
  pub stream : S

-- "A refusal .. returns the stream as it came"
abbrev pub outcome : {S : Type 0} → Insertion → (came taken : S) → Outcome S
outcome a came taken = record { answer = a; stream = cond (is_done a) taken came }
