-- A number's decimal text is the one that std and itoa give. Assumes nothing.
use Rattle.std.proofs.Common.{◌≡◌, ℕ, zero, suc, ◌+◌, ◌/◌, ◌%◌, ◌^◌, ◌≤◌, ◌<◌, Bool, cond, List, [], ◌∷◌, ◌++◌, ℤ, pos, negsuc, length, refl, sym, ap, ◌∙◌, arith, lt-ltb, le-ltb}
use Rattle.std.proofs.Math.Logic.{by_cases}
use Rattle.std.proofs.Math.Decide.{dec_lt}
use Rattle.std.specs.Fmt.{digits, signed_decimal, decimal as std_decimal}
use Rattle.std.proofs.lemmas.Fmt.{AppendsLastDigit, decimal_from_appends, length-decimal-le}
use Rattle.std.specs.Int.Signed.{mag}
use Rattle.io.specs.Digits.{hex_digit_ascii}
use Rattle.text.specs.Decimal.{digits_in, decimal, integer}

digit : (n : ℕ) → n < 10 → hex_digit_ascii n ≡ 48 + n
digit n h = ap (λ (b : Bool). cond b (48 + n) (87 + n)) (lt-ltb n 10 h)

by_ten : (k n : ℕ) → Bool → List ℕ
by_ten k n one = cond one (hex_digit_ascii n ∷ []) (digits_in k (n / 10) ++ hex_digit_ascii (n % 10) ∷ [])

appends : AppendsLastDigit digits_in
unfolding digits_in by_ten
appends = record {
  one = λ k n h. ap (by_ten k n) (lt-ltb n 10 h) ∙ ap (λ (d : ℕ). d ∷ []) (digit n h);
  more = λ k n h.
      let l : n % 10 < 10 = omega arith in
      ap (by_ten k n) (le-ltb n 10 h) ∙ ap (λ (d : ℕ). digits_in k (n / 10) ++ d ∷ []) (digit (n % 10) l);
}

few : (n : ℕ) → suc n < 2 ^ 64 → length (std_decimal (suc n)) ≤ suc n
few n h = by_cases (dec_lt (suc n) 10)
    (λ l. let p : 0 < 1 = omega arith in let q : suc n < 10 ^ 1 = omega arith in omega (arith, length-decimal-le 1 (suc n) p q h))
    (λ l. by_cases (dec_lt (suc n) 20)
    (λ m. let p : 0 < 2 = omega arith in let q : suc n < 10 ^ 2 = omega arith in omega (arith, length-decimal-le 2 (suc n) p q h))
    (λ m. let p : 0 < 20 = omega arith in let q : suc n < 10 ^ 20 = omega arith in omega (arith, length-decimal-le 20 (suc n) p q h)))

pub decimal_is : (n : ℕ) → n < 2 ^ 64 → std_decimal n ≡ decimal n
unfolding decimal digits digits_in
decimal_is zero h = refl
decimal_is (suc n) h = sym (decimal_from_appends digits_in appends (suc n) (suc n) h (few n h))

pub integer_is : (z : ℤ) → mag z < 2 ^ 63 → signed_decimal z ≡ integer z
integer_is (pos n) h = decimal_is n (omega arith)
integer_is (negsuc n) h = ap (λ (ds : List ℕ). 45 ∷ ds) (decimal_is (suc n) (omega arith))
