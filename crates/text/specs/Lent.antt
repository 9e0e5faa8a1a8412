-- Bytes in a lent slice. Definitions only.
use Rattle.std.specs.Prelude.{ℕ, List, [], ◌∷◌, Result, Ok, Err, length}
use Rattle.model.specs.Answers.{Said, gives, refuses}
use Rattle.model.specs.Questions.{first_no}
use Rattle.model.specs.ReadOut.{has_places, written}
use Rattle.model.specs.declared.answers.TooShort.{TooShort}

-- "A refusal carries its number": 10, or how many bytes were written
abbrev pub writing_said : Result ℕ TooShort → Said ℕ
writing_said (Ok n) = gives n
writing_said (Err e) = refuses 10 []

-- the answer, and the lent slice afterwards
pub record TextWritten : Type 0 where
  pub said : Said ℕ
  pub output : List ℕ

abbrev pub write_told : Result ℕ TooShort → List ℕ → TextWritten
write_told answer output = record { said = writing_said answer; output = output }

-- "has every lent slice a place for each element due? No: 10. Elements beyond those written stay."
abbrev pub write_of : (text lent : List ℕ) → TextWritten
write_of text lent =
    first_no ((has_places text lent, record { said = refuses 10 []; output = lent }) ∷ [])
    (record { said = gives (length text); output = written text lent })
