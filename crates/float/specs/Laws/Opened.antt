-- Each operation on finite doubles opened once, so that `round` stays shut after it; and the sign of what is rounded. Assumes nothing.
use Rattle.std.specs.Prelude.{◌≡◌, ℕ, zero, suc, ◌+◌, ◌-◌, ◌*◌, ◌^◌, ◌<◌, ◌≤◌, Bool, true, false, cond, not, ◌&&◌, ◌||◌, T, ℤ, ◌==◌, nat_lt, refl, Float}
use Rattle.std.proofs.Common.{sym, ap, ◌∙◌, le_of_eq, le_of_lt, not-le_of_lt, eqb→eq, ltb→lt}
use Rattle.std.proofs.Math.Dec.{not_T, eqb-suc-zero}
use Rattle.std.specs.Float.{nan, inf, fin, Format}
use Rattle.std.specs.Float.Ieee.{prec, emax, low, up, down, odd, units, round, neg, sum, add, mul, div, unlike}
use Rattle.std.specs.Float.Ieee.Fits.{round_is}
use Rattle.std.specs.Float.Ieee.Order.{kept, drop}
use Rattle.std.specs.Float.Ieee.Bits.{cond_no}

-- less or equal, as the comparison spells it
pub le_or : (a b : ℕ) → T (nat_lt a b || (a == b && true)) → a ≤ b
le_or a b t = go (nat_lt a b) (a == b) (ltb→lt a b) (eqb→eq a b) t
  where
    go : (x y : Bool) → (T x → a < b) → (T y → a ≡ b) → T (x || (y && true)) → a ≤ b
    go true y p q t = le_of_lt (p tt)
    go false true p q t = le_of_eq (q tt)
    go false false p q t = absurd t

-- ---- the sign goes through `round`
neg_units : (f : Format) (q k : ℕ) → units f true q k ≡ neg (units f false q k)
unfolding units neg
neg_units f q k = go (nat_lt (q * 2 ^ k) (2 ^ (low f + suc (emax f)))) q
  where
    go : (b : Bool) (q : ℕ) → cond b (odd (suc (prec f)) true q k (low f)) (inf true) ≡ neg (cond b (odd (suc (prec f)) false q k (low f)) (inf false))
    go true zero = refl
    go true (suc q) = refl
    go false q = refl

-- rounding does not look at the sign
pub round_neg : (f : Format) (a c : ℕ) → round f true a c ≡ neg (round f false a c)
round_neg f a c = round_is f true a c ∙ neg_units f (kept (prec f) (a * 2 ^ low f) c) (drop (prec f) (a * 2 ^ low f) c) ∙ ap neg (sym (round_is f false a c))

-- not a NaN, with the plus sign
abbrev pub Plus : Float → Type 0
Plus nan = ⊥
Plus (inf s) = s ≡ false
Plus (fin s m e) = s ≡ false

plus_units : (f : Format) (q k : ℕ) → Plus (units f false q k)
unfolding units odd
plus_units f q k = go (nat_lt (q * 2 ^ k) (2 ^ (low f + suc (emax f)))) q
  where
    go : (b : Bool) (q : ℕ) → Plus (cond b (odd (suc (prec f)) false q k (low f)) (inf false))
    go true zero = refl
    go true (suc q) = refl
    go false q = refl

-- what is rounded with the sign plus has it
pub plus_round : (f : Format) (a c : ℕ) → Plus (round f false a c)
plus_round f a c = rw (round_is f false a c) (plus_units f (kept (prec f) (a * 2 ^ low f) c) (drop (prec f) (a * 2 ^ low f) c))

-- ---- each operation on finite values, opened once, so that `round` stays shut after it
pub mul_fin :
    (f : Format) (s : Bool) (m : ℕ) (e : ℤ) (t : Bool) (n : ℕ) (d : ℤ) →
    mul f (fin s m e) (fin t n d) ≡ round f (unlike s t) (m * up e * (n * up d)) (down e * down d)
unfolding mul
mul_fin f s m e t n d = refl

-- a quotient of finite ones
pub div_fin :
    (f : Format) (s : Bool) (m : ℕ) (e : ℤ) (t : Bool) (n : ℕ) (d : ℤ) →
    div f (fin s m e) (fin t (suc n) d) ≡ round f (unlike s t) (m * up e * down d) (suc n * up d * down e)
unfolding div
div_fin f s m e t n d =
    cond_no (suc n == 0) (cond (m == 0) nan (inf (unlike s t))) (round f (unlike s t) (m * up e * down d) (suc n * up d * down e)) (rw eqb-suc-zero tt)

-- a sum of finite ones
pub add_fin :
    (f : Format) (s : Bool) (m : ℕ) (e : ℤ) (t : Bool) (n : ℕ) (d : ℤ) →
    add f (fin s m e) (fin t n d) ≡ sum f s (m * up e * down d) t (n * up d * down e) (down e * down d)
unfolding add
add_fin f s m e t n d = refl

-- a - b with the larger first: the sign is a's, but a difference of 0 is +0
pub sum_away : (f : Format) (s : Bool) (a b c : ℕ) → b ≤ a → sum f s a (not s) b c ≡ round f (s && nat_lt b a) (a - b) c
unfolding sum
sum_away f true a b c h = cond_no (nat_lt a b) (round f false (b - a) c) (round f (nat_lt b a) (a - b) c) (not_T (nat_lt a b) (λ t. not-le_of_lt (ltb→lt a b t) h))
sum_away f false a b c h = cond_no (nat_lt a b) (round f true (b - a) c) (round f false (a - b) c) (not_T (nat_lt a b) (λ t. not-le_of_lt (ltb→lt a b t) h))

-- a sum of one sign
pub sum_same : (f : Format) (s : Bool) (a b c : ℕ) → sum f s a s b c ≡ round f s (a + b) c
unfolding sum
sum_same f true a b c = refl
sum_same f false a b c = refl

-- a sign against plus
pub unlike_false : (s : Bool) → unlike s false ≡ s
unlike_false true = refl
unlike_false false = refl

-- ---- a NaN goes through every operation
pub add_nan : (f : Format) (x : Float) → add f x nan ≡ nan
unfolding add
add_nan f nan = refl
add_nan f (inf s) = refl
add_nan f (fin s m e) = refl

-- NaN stays in a product
pub mul_nan : (f : Format) (x : Float) → mul f x nan ≡ nan
unfolding mul
mul_nan f nan = refl
mul_nan f (inf s) = refl
mul_nan f (fin s m e) = refl

-- NaN stays in a quotient
pub div_nan : (f : Format) (x : Float) → div f x nan ≡ nan
unfolding div
div_nan f nan = refl
div_nan f (inf s) = refl
div_nan f (fin s m e) = refl
