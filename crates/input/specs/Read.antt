-- What a read from outside leaves in a lent slice. Definition only.
use Rattle.std.specs.Prelude.{ℕ, ◌≤◌, ◌≡◌, List, Result, length}
use Rattle.model.specs.declared.answers.TooShort.{TooShort}
use Rattle.text.specs.Lent.{write_told, write_of}

-- some bytes, whatever came, were written there: nothing else is free
pub record Read (answer : Result ℕ TooShort) (before after : List ℕ) : Type 0 where
  pub bytes : List ℕ
  pub few : length bytes ≤ 65537
  pub is : write_told answer after ≡ write_of bytes before
