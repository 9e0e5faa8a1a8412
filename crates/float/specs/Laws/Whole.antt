-- Whole numbers as doubles: `whole n` is n as a double.
-- Up to 2 ^ 53 sums, differences, products, remainders and comparisons of them are those of the numbers. Assumes nothing.
use Rattle.std.specs.Prelude.{◌≡◌, ℕ, zero, suc, ◌+◌, ◌-◌, ◌*◌, ◌%◌, ◌^◌, ◌<◌, ◌≤◌, Bool, true, false, ◌&&◌, ◌||◌, T, ℤ, ◌==◌, nat_le, nat_lt, refl, Float}
use Rattle.std.proofs.Common.{sym, ap, ◌∙◌, subst, le_of_eq, le_of_lt, mul-one, mul_comm, mul_assoc, add-mul, mul-le-mul_right, mul-lt-mul_of_pos_right, lt_of_mul-lt-mul_right, mul-pos, mul-div_cancel, eq-or-lt_of_le, arith, true≢false, eqb→eq, ltb→lt, lt→ltb, lit<, le→leb, leb→le, inl, inr}
use Rattle.std.proofs.Math.Nat.{mul-mul-mul_comm, eq_of_mul-eq-mul_right, mul-sub, mul-mod_left}
use Rattle.std.proofs.Math.Dec.{eqb-suc-zero}
use Rattle.std.specs.Float.{nan, inf, fin, Format, binary64}
use Rattle.std.specs.Float.Ieee.{up, down, round, add, sub, mul, rem, lt, le, eq, of_int, of_bits}
use Rattle.std.specs.Float.Ieee.Fits.{down_pos, eq→eqb}
use Rattle.std.specs.Float.Ieee.Back.{round_whole}
use Rattle.std.specs.Float.Ieee.Bits.{cond_no}
use Rattle.std.proofs.Math.Arith.{mod-mul}
use Rattle.std.specs.Float.Ieee.Scale.{round_same}
use Rattle.float.specs.Rounded.{◌⊕◌, ◌⊖◌, one, whole, Is, Exact}
use Rattle.float.specs.Laws.Opened.{add_fin, sum_same, sum_away, mul_fin}
use Rattle.float.specs.Laws.Compare.{same, or_l, or_r}

-- a whole number up to 2^53 is exact
pub whole_is : (n : ℕ) → n ≤ 2 ^ 53 → Is (whole n) n
unfolding of_int
whole_is n h = round_whole binary64 false n h

-- so is every double that is one
pub exactly : (n : ℕ) (x : Float) → x ≡ whole n → n < 2 ^ 53 → Exact n x
exactly n x e h = record { same = e; value = subst (λ (y : Float). Is y n) (sym e) (whole_is n (le_of_lt h)); below = h }

-- a fraction n * c / c rounds to n
rounded : (n a c : ℕ) → 0 < c → a ≡ n * c → round binary64 false a c ≡ whole n
unfolding of_int
rounded n a c C e = round_same binary64 false a c n 1 C (lit< tt) (omega arith)

size : (m : ℕ) (e : ℤ) (n : ℕ) (D : ℕ) → m * up e * 1 ≡ n * down e → m * up e * D ≡ n * (down e * D)
size m e n D h = ap (λ (k : ℕ). k * D) (sym (mul-one (m * up e)) ∙ h) ∙ mul_assoc n (down e) D

size' : (m : ℕ) (e : ℤ) (n : ℕ) (D : ℕ) → m * up e * 1 ≡ n * down e → m * up e * D ≡ n * (D * down e)
size' m e n D h = size m e n D h ∙ ap (λ (k : ℕ). n * k) (mul_comm (down e) D)

-- sums are those of the numbers
pub add_is : (x y : Float) (n k : ℕ) → Is x n → Is y k → add binary64 x y ≡ whole (n + k)
add_is nan y n k p q = absurd p
add_is (inf s) y n k p q = absurd p
add_is (fin true m e) y n k p q = absurd (true≢false p.0)
add_is (fin false m e) nan n k p q = absurd q
add_is (fin false m e) (inf t) n k p q = absurd q
add_is (fin false m e) (fin true l d) n k p q = absurd (true≢false q.0)
add_is (fin false m e) (fin false l d) n k p q =
    add_fin binary64 false m e false l d ∙ sum_same binary64 false (m * up e * down d) (l * up d * down e) (down e * down d)
    ∙ rounded (n + k) (m * up e * down d + l * up d * down e) (down e * down d) (mul-pos (down_pos e) (down_pos d))
    (let a = size m e n (down d) p.1 in let b = size' l d k (down e) q.1 in let c = add-mul n k (down e * down d) in omega arith)

-- 1 is exact
pub exact_one : Exact 1 one
unfolding of_bits of_int
exact_one = exactly 1 one refl (lit< tt)

-- sums of exact whole doubles are exact, while they stay below 2^53
pub exact_sum : {n k : ℕ} {x y : Float} → Exact n x → Exact k y → n + k < 2 ^ 53 → Exact (n + k) (x ⊕ y)
exact_sum {n} {k} {x} {y} p q h = exactly (n + k) (x ⊕ y) (add_is x y n k p.value q.value) h

sub_opened : (f : Format) (m : ℕ) (e : ℤ) (l : ℕ) (d : ℤ) → sub f (fin false m e) (fin false l d) ≡ add f (fin false m e) (fin true l d)
unfolding sub
sub_opened f m e l d = refl

-- differences are those of the numbers
pub sub_is : (x y : Float) (n k : ℕ) → k ≤ n → Is x n → Is y k → sub binary64 x y ≡ whole (n - k)
sub_is nan y n k g p q = absurd p
sub_is (inf s) y n k g p q = absurd p
sub_is (fin true m e) y n k g p q = absurd (true≢false p.0)
sub_is (fin false m e) nan n k g p q = absurd q
sub_is (fin false m e) (inf t) n k g p q = absurd q
sub_is (fin false m e) (fin true l d) n k g p q = absurd (true≢false q.0)
sub_is (fin false m e) (fin false l d) n k g p q =
    let a = size m e n (down d) p.1 in
    let b = size' l d k (down e) q.1 in
    let h : k * (down e * down d) ≤ n * (down e * down d) = mul-le-mul_right (down e * down d) g in
    let s : (n - k) * (down e * down d) ≡ n * (down e * down d) - k * (down e * down d) =
    mul_comm (n - k) (down e * down d) ∙ mul-sub (down e * down d) n k ∙ rw (mul_comm (down e * down d) n, mul_comm (down e * down d) k) in
    sub_opened binary64 m e l d ∙ add_fin binary64 false m e true l d
    ∙ sum_away binary64 false (m * up e * down d) (l * up d * down e) (down e * down d) (omega arith)
    ∙ rounded (n - k) (m * up e * down d - l * up d * down e) (down e * down d) (mul-pos (down_pos e) (down_pos d)) (omega arith)

-- differences of exact whole doubles are exact
pub exact_difference : {n k : ℕ} {x y : Float} → Exact n x → Exact k y → k ≤ n → Exact (n - k) (x ⊖ y)
exact_difference {n} {k} {x} {y} p q g = exactly (n - k) (x ⊖ y) (sub_is x y n k g p.value q.value) (let b : n < 2 ^ 53 = p.below in omega arith)

-- products are those of the numbers
pub mul_is : (x y : Float) (n k : ℕ) → Is x n → Is y k → mul binary64 x y ≡ whole (n * k)
mul_is nan y n k p q = absurd p
mul_is (inf s) y n k p q = absurd p
mul_is (fin true m e) y n k p q = absurd (true≢false p.0)
mul_is (fin false m e) nan n k p q = absurd q
mul_is (fin false m e) (inf t) n k p q = absurd q
mul_is (fin false m e) (fin true l d) n k p q = absurd (true≢false q.0)
mul_is (fin false m e) (fin false l d) n k p q =
    mul_fin binary64 false m e false l d
    ∙ rounded (n * k) (m * up e * (l * up d)) (down e * down d) (mul-pos (down_pos e) (down_pos d))
    (ap (λ (i : ℕ). i * (l * up d)) (sym (mul-one (m * up e)) ∙ p.1) ∙ ap (λ (i : ℕ). n * down e * i) (sym (mul-one (l * up d)) ∙ q.1)
    ∙ mul-mul-mul_comm n (down e) k (down d))

-- ---- comparisons
ltb_scaled : (n k c : ℕ) → 0 < c → nat_lt (n * c) (k * c) ≡ nat_lt n k
ltb_scaled n k c C =
    same (nat_lt (n * c) (k * c)) (nat_lt n k) (λ t. lt→ltb n k (lt_of_mul-lt-mul_right c (ltb→lt (n * c) (k * c) t)))
    (λ t. lt→ltb (n * c) (k * c) (mul-lt-mul_of_pos_right (ltb→lt n k t) C))

-- less is that of the numbers
pub lt_is : (x y : Float) (n k : ℕ) → Is x n → Is y k → lt x y ≡ nat_lt n k
unfolding lt
lt_is nan y n k p q = absurd p
lt_is (inf s) y n k p q = absurd p
lt_is (fin true m e) y n k p q = absurd (true≢false p.0)
lt_is (fin false m e) nan n k p q = absurd q
lt_is (fin false m e) (inf t) n k p q = absurd q
lt_is (fin false m e) (fin true l d) n k p q = absurd (true≢false q.0)
lt_is (fin false m e) (fin false l d) n k p q =
    rw (size m e n (down d) p.1, size' l d k (down e) q.1) (ltb_scaled n k (down e * down d) (mul-pos (down_pos e) (down_pos d)))

eqb_scaled : (n k c : ℕ) → 0 < c → (n * c == k * c) ≡ (n == k)
eqb_scaled n k c C =
    same (n * c == k * c) (n == k) (λ t. eq→eqb (eq_of_mul-eq-mul_right c C n k (eqb→eq (n * c) (k * c) t)))
    (λ t. eq→eqb (ap (λ (i : ℕ). i * c) (eqb→eq n k t)))

and_true : (b : Bool) → (b && true) ≡ b
and_true true = refl
and_true false = refl

-- equal is that of the numbers
pub eq_is : (x y : Float) (n k : ℕ) → Is x n → Is y k → eq x y ≡ (n == k)
unfolding eq
eq_is nan y n k p q = absurd p
eq_is (inf s) y n k p q = absurd p
eq_is (fin true m e) y n k p q = absurd (true≢false p.0)
eq_is (fin false m e) nan n k p q = absurd q
eq_is (fin false m e) (inf t) n k p q = absurd q
eq_is (fin false m e) (fin true l d) n k p q = absurd (true≢false q.0)
eq_is (fin false m e) (fin false l d) n k p q =
    and_true (m * up e * down d == l * up d * down e)
    ∙ rw (size m e n (down d) p.1, size' l d k (down e) q.1) (eqb_scaled n k (down e * down d) (mul-pos (down_pos e) (down_pos d)))

lt_or_eq : (n k : ℕ) → (nat_lt n k || n == k) ≡ nat_le n k
lt_or_eq n k = same (nat_lt n k || n == k) (nat_le n k) (forth (nat_lt n k) (n == k) (ltb→lt n k) (eqb→eq n k)) (λ t. back (leb→le n k t))
  where
    forth : (a b : Bool) → (T a → n < k) → (T b → n ≡ k) → T (a || b) → T (nat_le n k)
    forth true b p q t = le→leb n k (le_of_lt (p tt))
    forth false true p q t = le→leb n k (le_of_eq (q tt))
    forth false false p q t = absurd t

    back : n ≤ k → T (nat_lt n k || n == k)
    back h = elim (eq-or-lt_of_le h) [ inl e ↦ or_r (nat_lt n k) (n == k) (eq→eqb e) | inr l ↦ or_l (nat_lt n k) (n == k) (lt→ltb n k l) ]

le_opened : (x y : Float) → le x y ≡ (lt x y || eq x y)
unfolding le
le_opened x y = refl

-- at most is that of the numbers
pub le_is : (x y : Float) (n k : ℕ) → Is x n → Is y k → le x y ≡ nat_le n k
le_is x y n k p q = le_opened x y ∙ rw (lt_is x y n k p q, eq_is x y n k p q) (lt_or_eq n k)

-- ---- the remainder
mod_scaled : (n k c : ℕ) → 0 < k → 0 < c → n * c % (k * c) ≡ n % k * c
mod_scaled n k c K C = let z : n * c % c ≡ 0 = mul-mod_left n c in mod-mul (n * c) K C ∙ rw (mul-div_cancel n C) (omega arith)

rem_opened :
    (m : ℕ) (e : ℤ) (l : ℕ) (d : ℤ) →
    rem binary64 (fin false m e) (fin false (suc l) d) ≡ round binary64 false (m * up e * down d % (suc l * up d * down e)) (down e * down d)
unfolding rem
rem_opened m e l d = cond_no (suc l == 0) nan (round binary64 false (m * up e * down d % (suc l * up d * down e)) (down e * down d)) (rw eqb-suc-zero tt)

-- remainders are those of the numbers
pub rem_is : (x y : Float) (n k : ℕ) → 0 < k → Is x n → Is y k → rem binary64 x y ≡ whole (n % k)
rem_is nan y n k K p q = absurd p
rem_is (inf s) y n k K p q = absurd p
rem_is (fin true m e) y n k K p q = absurd (true≢false p.0)
rem_is (fin false m e) nan n k K p q = absurd q
rem_is (fin false m e) (inf t) n k K p q = absurd q
rem_is (fin false m e) (fin true l d) n k K p q = absurd (true≢false q.0)
rem_is (fin false m e) (fin false zero d) n k K p q =
    absurd (let h : 0 * up d * 1 ≡ k * down d = q.1 in let g : 0 < k * down d = mul-pos K (down_pos d) in omega arith)
rem_is (fin false m e) (fin false (suc l) d) n k K p q =
    rem_opened m e l d
    ∙ rounded (n % k) (m * up e * down d % (suc l * up d * down e)) (down e * down d) (mul-pos (down_pos e) (down_pos d))
    (rw (size m e n (down d) p.1, size' (suc l) d k (down e) q.1) (mod_scaled n k (down e * down d) K (mul-pos (down_pos e) (down_pos d))))
