-- How long a text is. Assumes nothing.
use Rattle.std.specs.Prelude.{ℕ, zero, suc, ◌+◌, ◌-◌, ◌*◌, ◌/◌, ◌%◌, ◌^◌, ◌≤◌, ◌<◌, ◌≡◌, Bool, true, false, cond, List, [], ◌∷◌, ◌++◌, ℤ, pos, negsuc, length}
use Rattle.std.proofs.Common.{ap, pow-suc, suc-mul, le_refl, arith, lt-ltb, le-ltb, length-append}
use Rattle.std.proofs.Math.Logic.{by_cases}
use Rattle.std.proofs.Math.Decide.{dec_lt}
use Rattle.std.specs.Int.Signed.{mag}
use Rattle.io.specs.Digits.{hex_digit_ascii}
use Rattle.text.specs.Ascii.{ascii}
use Rattle.text.specs.Text.{Within, each, blanks}
use Rattle.text.specs.Decimal.{digits_in, decimal, integer, right}

-- what holds of both holds of either
pub of_either : {A : Type 0} (P : A → Type 0) (b : Bool) (x y : A) → P x → P y → P (cond b x y)
of_either P true x y p q = p
of_either P false x y p q = q

pub piece : (p : List ℕ) → Within p (length p)
piece p = record { is = le_refl (length p) }

pub wider : {p : List ℕ} {m n : ℕ} → m ≤ n → Within p m → Within p n
wider h w = record { is = omega (arith, h, w.is) }

-- pieces one after another; either of two; many of at most k bytes
pub beside : {p q : List ℕ} {a b : ℕ} → Within p a → Within q b → Within (p ++ q) (a + b)
beside {p} {q} h k = record { is = omega (arith, length-append p q, h.is, k.is) }

pub either : (b : Bool) {p q : List ℕ} {n : ℕ} → Within p n → Within q n → Within (cond b p q) n
either b {p} {q} {n} h k = of_either (λ (t : List ℕ). Within t n) b p q h k

pub each_within : (f : ℕ → List ℕ) (k : ℕ) → ((i : ℕ) → Within (f i) k) → (n : ℕ) → Within (each f n) (n * k)
unfolding each
each_within f k h zero = record { is = omega arith }
each_within f k h (suc n) = record { is = omega (arith, length-append (each f n) (f n), (h n).is, (each_within f k h n).is, suc-mul n k) }

pub blanks_within : (n : ℕ) → Within (blanks n) n
blanks_within n = record { is = omega (arith, (each_within (λ (i : ℕ). ascii " ") 1 (λ (i : ℕ). piece (ascii " ")) n).is) }

abbrev digits_by : (turns n : ℕ) → Bool → List ℕ
digits_by turns n one = cond one (hex_digit_ascii n ∷ []) (digits_in turns (n / 10) ++ hex_digit_ascii (n % 10) ∷ [])

in_turns : (turns n k : ℕ) → n < 10 ^ suc k → length (digits_in turns n) ≤ suc k
unfolding digits_in
in_turns zero n k h = omega arith
in_turns (suc turns) n zero h =
    let l : n < 10 = omega arith in
    omega (arith, ap (λ (t : Bool). length (digits_by turns n t)) (lt-ltb n 10 l))
in_turns (suc turns) n (suc k) h = by_cases (dec_lt n 10)
    (λ l. omega (arith, ap (λ (t : Bool). length (digits_by turns n t)) (lt-ltb n 10 l)))
    (λ l.
    let g : 10 ≤ n = omega arith in
    let p : 10 ^ suc (suc k) ≡ 10 * 10 ^ suc k = simp pow-suc (omega arith) in
    let e = ap (λ (t : Bool). length (digits_by turns n t)) (le-ltb n 10 g) in
    omega (arith, e, length-append (digits_in turns (n / 10)) (hex_digit_ascii (n % 10) ∷ []), in_turns turns (n / 10) k (omega arith)))

-- a number below 10 to the k + 1 has at most k + 1 digits
pub digits_within : (k n : ℕ) → n < 10 ^ suc k → Within (decimal n) (suc k)
unfolding decimal
digits_within k n h = record { is = in_turns n n k h }

-- a number of 64 bits has at most 20 digits, a sign is one more
pub number_within : (n : ℕ) → n < 2 ^ 64 → Within (decimal n) 20
number_within n h = digits_within 19 n (omega arith)

pub integer_within : (z : ℤ) → mag z < 2 ^ 63 → Within (integer z) 21
integer_within (pos n) h = let k : 20 ≤ 21 = omega arith in wider k (number_within n (omega arith))
integer_within (negsuc n) h = beside (piece (ascii "-")) (number_within (suc n) (omega arith))

-- blanks make a number no longer than its width
pub right_within : (width sign n k : ℕ) → width ≤ suc k → n < 10 ^ suc k → Within (right width sign n) (suc (suc k))
right_within width sign n k w h =
    record {
      is =
          omega (
            arith,
            length-append (blanks (width - length (decimal n)) ++ sign ∷ []) (decimal n),
            length-append (blanks (width - length (decimal n))) (sign ∷ []),
            (blanks_within (width - length (decimal n))).is,
            (digits_within k n h).is,
          );
    }
