-- Document 01, `families`: the line of a refusal. Definition only.
use Rattle.std.specs.Prelude.{ℕ, List, ◌++◌}
use Rattle.text.specs.Ascii.{ascii}
use Rattle.text.specs.Decimal.{decimal}

-- "the line `refused`, a space and the number"
abbrev pub refused_line : (number : ℕ) → List ℕ
refused_line number = ascii "refused " ++ decimal number ++ ascii "\n"
