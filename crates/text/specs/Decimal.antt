-- Numbers in decimal digits, as ASCII codes. Definitions only.
use Rattle.std.specs.Prelude.{ℕ, zero, suc, ◌-◌, ◌/◌, ◌%◌, cond, List, [], ◌∷◌, ◌++◌, ltb, ℤ, pos, negsuc, length}
use Rattle.io.specs.Digits.{hex_digit_ascii}
use Rattle.text.specs.Ascii.{ascii}
use Rattle.text.specs.Text.{blanks}

-- the digits of n, no zero in front: one below 10, else those of n / 10 and the last; n turns are more than n takes
unfoldable pub digits_in : (turns n : ℕ) → List ℕ
digits_in zero n = hex_digit_ascii n ∷ []
digits_in (suc turns) n = cond (ltb n 10) (hex_digit_ascii n ∷ []) (digits_in turns (n / 10) ++ hex_digit_ascii (n % 10) ∷ [])

unfoldable pub decimal : ℕ → List ℕ
unfolding digits_in
decimal n = digits_in n n

abbrev pub integer : ℤ → List ℕ
integer (pos n) = decimal n
integer (negsuc n) = ascii "-" ++ decimal (suc n)

-- a sign and a number, with blanks in front up to as many digits as the width says
abbrev pub right : (width sign n : ℕ) → List ℕ
right width sign n = blanks (width - length (decimal n)) ++ sign ∷ [] ++ decimal n
