-- Comparisons by the fractions that two values equal. Assumes nothing.
use Rattle.std.specs.Prelude.{◌≡◌, ℕ, ◌*◌, ◌<◌, ◌≤◌, Bool, true, false, ◌||◌, T, ltb, ◌==◌, nat_lt, refl, Float}
use Rattle.std.proofs.Common.{sym, ap, add_comm, lt_of_not-le, not-le_of_lt, true≢false, ltb→lt, lt→ltb}
use Rattle.std.proofs.Math.Dec.{eqb_refl}
use Rattle.std.specs.Float.{nan, inf, fin}
use Rattle.std.specs.Float.Ieee.{up, down, lt, ne, neg, is_nan}
use Rattle.std.specs.Float.Ieee.Bits.{is_true}
use Rattle.std.specs.Float.Ieee.Fits.{down_pos}
use Rattle.std.specs.Float.Ieee.Exact.{HasValue}
use Rattle.std.specs.Float.Ieee.Order.{transfer}

-- a minus on both sides turns a comparison round, whatever the values
pub lt_neg : (x y : Float) → lt (neg x) (neg y) ≡ lt y x
unfolding lt neg
lt_neg nan nan = refl
lt_neg nan (inf t) = refl
lt_neg nan (fin t n d) = refl
lt_neg (inf s) nan = refl
lt_neg (inf true) (inf true) = refl
lt_neg (inf true) (inf false) = refl
lt_neg (inf false) (inf true) = refl
lt_neg (inf false) (inf false) = refl
lt_neg (inf s) (fin t n d) = refl
lt_neg (fin s m e) nan = refl
lt_neg (fin s m e) (inf true) = refl
lt_neg (fin s m e) (inf false) = refl
lt_neg (fin true m e) (fin true n d) = refl
lt_neg (fin true m e) (fin false n d) = refl
lt_neg (fin false m e) (fin true n d) = ap (ltb 0) (add_comm (m * up e * down d) (n * up d * down e))
lt_neg (fin false m e) (fin false n d) = refl

-- where one of two tests holds, their or does
pub or_l : (a b : Bool) → T a → T (a || b)
or_l true b t = tt
or_l false b t = absurd t

pub or_r : (a b : Bool) → T b → T (a || b)
or_r true b t = tt
or_r false b t = t

-- tests that hold together are one
pub same : (a b : Bool) → (T a → T b) → (T b → T a) → a ≡ b
same true true p q = refl
same true false p q = absurd (p tt)
same false true p q = absurd (q tt)
same false false p q = refl

-- P < Q where A < B, and the other way round, if Q ≤ P where B ≤ A and the other way round
ltb_same : (P Q A B : ℕ) → (B ≤ A → Q ≤ P) → (Q ≤ P → B ≤ A) → nat_lt P Q ≡ nat_lt A B
ltb_same P Q A B f g =
    same (nat_lt P Q) (nat_lt A B)
    (λ t. lt→ltb A B (lt_of_not-le (λ (h : B ≤ A). not-le_of_lt (ltb→lt P Q t) (f h))))
    (λ t. lt→ltb P Q (lt_of_not-le (λ (h : Q ≤ P). not-le_of_lt (ltb→lt A B t) (g h))))

-- two values that are not negative, by any fractions a / c and b / d that they equal
pub lt_values : (x y : Float) (a c b d : ℕ) → 0 < c → 0 < d → HasValue x false a c → HasValue y false b d → lt x y ≡ nat_lt (a * d) (b * c)
unfolding lt
lt_values nan y a c b d C D p q = absurd p
lt_values (inf s) y a c b d C D p q = absurd p
lt_values (fin true m e) y a c b d C D p q = absurd (true≢false p.0)
lt_values (fin false m e) nan a c b d C D p q = absurd q
lt_values (fin false m e) (inf t) a c b d C D p q = absurd q
lt_values (fin false m e) (fin true n g) a c b d C D p q = absurd (true≢false q.0)
lt_values (fin false m e) (fin false n g) a c b d C D p q =
    ltb_same (m * up e * down g) (n * up g * down e) (a * d) (b * c)
    (λ h. transfer (n * up g) (m * up e) (down g) (down e) b a d c D C q.1 p.1 h)
    (λ h. transfer b a d c (n * up g) (m * up e) (down g) (down e) (down_pos g) (down_pos e) (sym q.1) (sym p.1) h)

-- the code's test of a NaN
pub nan_test : (x : Float) → ne x x ≡ is_nan x
unfolding ne is_nan
nan_test nan = refl
nan_test (inf true) = refl
nan_test (inf false) = refl
nan_test (fin true m e) = rw (is_true (m * up e * down e == m * up e * down e) (eqb_refl (m * up e * down e)))
nan_test (fin false m e) = rw (is_true (m * up e * down e == m * up e * down e) (eqb_refl (m * up e * down e)))
