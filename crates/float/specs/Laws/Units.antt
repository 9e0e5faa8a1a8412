-- A double above 0, counted in the smallest ones: m * 2 ^ power of them, where m has at most 53 binary digits. So it is its own rounding, and so
-- are its half, the half of that .. down to the smallest; and nothing that is at least a double is rounded to less than it. Assumes nothing.
use Rattle.std.specs.Prelude.{◌≡◌, ℕ, zero, suc, ◌+◌, ◌-◌, ◌*◌, ◌%◌, ◌^◌, ◌<◌, ◌≤◌, true, false, ◌&&◌, T, ℤ, pos, negsuc, nat_eq, nat_le, nat_lt, refl, Float}
use Rattle.std.proofs.Common.{sym, ap, ◌∙◌, le_refl, le_of_eq, lt_of_lt_of_le, lt_of_le_of_lt, lt_of_not-le, lt_irrefl, lt_of_mul-lt-mul_right, le_of_suc-le-suc, mul_comm, mul_left_comm, mul_right_comm, mul_assoc, mul-one, zero-mul, mul-le-mul_left, mul-lt-mul_of_pos_right, mul-pos, arith, true≢false, leb→le, lit<, pow-add, pow_pos, pow_mono}
use Rattle.std.proofs.Math.Pow.{pow-lt}
use Rattle.std.specs.Float.{nan, inf, fin, binary64}
use Rattle.std.specs.Float.Ieee.{up, down, round, add, le, fits, of_bits}
use Rattle.std.specs.Float.Ieee.Fits.{and_l, and_r, down_pos}
use Rattle.std.specs.Float.Ieee.Digits.{back}
use Rattle.std.specs.Float.Ieee.Exact.{HasValue, round_exact}
use Rattle.std.specs.Float.Ieee.Order.{round_mono, le_of_values}
use Rattle.float.specs.Rounded.{◌⊕◌, nought}
use Rattle.float.specs.Laws.Opened.{Plus, add_fin, sum_same}
use Rattle.float.specs.Laws.Ordered.{is_fin, parts→le, le_trans_all, add_mono}
use Rattle.float.specs.Laws.Binary64.{few, under}

-- a double as a whole number of units of 2^−1074
pub record Units (m : ℕ) (e : ℤ) : Type 0 where
  pub power : ℕ
  pub few : m < 2 ^ 53
  pub is : m * up e * 2 ^ 1074 ≡ m * 2 ^ power * down e
  pub room : m * 2 ^ power < 2 ^ 2098

pow_lt_back : (i j : ℕ) → 2 ^ i < 2 ^ j → i < j
pow_lt_back i j h = lt_of_not-le (λ (g : j ≤ i). lt_irrefl (2 ^ i) (lt_of_lt_of_le h (pow_mono g)))

place : (m : ℕ) (e : ℤ) → down e ≤ 2 ^ 1074 → (k : ℕ) × (m * up e * 2 ^ 1074 ≡ m * 2 ^ k * down e)
place m (pos x) h = (x + 1074, mul_assoc m (2 ^ x) (2 ^ 1074) ∙ ap (λ (y : ℕ). m * y) (sym (pow-add 2 x 1074)) ∙ sym (mul-one (m * 2 ^ (x + 1074))))
place m (negsuc x) h =
    let l : suc x ≤ 1074 = le_of_suc-le-suc (pow_lt_back (suc x) 1075 (lt_of_le_of_lt h (pow-lt {i = 1074} {j = 1075} (lit< tt)))) in
    let k = 1074 - suc x in
    let parts : 2 ^ 1074 ≡ 2 ^ k * 2 ^ suc x = ap (λ (y : ℕ). 2 ^ y) (sym (back 1074 (suc x) l)) ∙ pow-add 2 k (suc x) in
    (k, ap (λ (y : ℕ). y * 2 ^ 1074) (mul-one m) ∙ ap (λ (y : ℕ). m * y) parts ∙ sym (mul_assoc m (2 ^ k) (2 ^ suc x)))

-- every finite double above 0 is a number of units
pub in_units : (m : ℕ) (e : ℤ) → T (fits binary64 (fin false (suc m) e)) → Units (suc m) e
unfolding fits
in_units m e f =
    let A = nat_eq (suc m % 2) 1 in
    let B = nat_lt (suc m) (2 ^ 53) in
    let D = nat_le (down e) (2 ^ 1074) in
    let E = nat_lt (suc m * up e) (2 ^ 1024 * down e) in
    let p = place (suc m) e (leb→le (down e) (2 ^ 1074) (and_r (A && B) D (and_l (A && B && D) E f))) in
    record {
      power = p.0;
      few = few false (suc m) e f;
      is = p.1;
      room = lt_of_mul-lt-mul_right (down e) (lt_of_le_of_lt (le_of_eq (sym p.1))
          (lt_of_lt_of_le (mul-lt-mul_of_pos_right (under (suc m) e f) (pow_pos 1074)) (le_of_eq (mul_right_comm (2 ^ 1024) (down e) (2 ^ 1074)))));
    }

-- halved t times
pub halves_exact :
    {m : ℕ} {e : ℤ} (u : Units m e) (t : ℕ) → t ≤ u.power →
    HasValue (round binary64 false (m * up e) (down e * 2 ^ t)) false (m * up e) (down e * 2 ^ t)
halves_exact {m} {e} u t h =
    let k = u.power - t in
    let parts : 2 ^ u.power ≡ 2 ^ k * 2 ^ t = ap (λ (n : ℕ). 2 ^ n) (sym (back u.power t h)) ∙ pow-add 2 k t in
    round_exact binary64 false (m * up e) (down e * 2 ^ t) m k (mul-pos (down_pos e) (pow_pos t)) u.few
    (lt_of_le_of_lt (mul-le-mul_left m (pow_mono {i = k} {j = u.power} (omega arith))) u.room)
    (u.is ∙ ap (λ (n : ℕ). m * n * down e) parts ∙ simp (mul_assoc, mul_comm, mul_left_comm))

-- a double is its own rounding
pub own_round : (m : ℕ) (e : ℤ) → T (fits binary64 (fin false m e)) → HasValue (round binary64 false (m * up e) (down e)) false (m * up e) (down e)
own_round zero e f = round_exact binary64 false (0 * up e) (down e) 0 0 (down_pos e) (lit< tt) (lit< tt) (simp zero-mul)
own_round (suc m) e f =
    let u = in_units m e f in round_exact binary64 false (suc m * up e) (down e) (suc m) u.power (down_pos e) u.few u.room u.is

-- so what is at least a double stays so when it is rounded
pub round_above :
    (m : ℕ) (e : ℤ) → T (fits binary64 (fin false m e)) → (b d : ℕ) → 0 < d → m * up e * d ≤ b * down e →
    T (le (fin false m e) (round binary64 false b d))
round_above m e f b d D h =
    let a = m * up e in
    let C : 0 < down e = down_pos e in
    le_trans_all (fin false m e) (round binary64 false a (down e)) (round binary64 false b d)
    (le_of_values (fin false m e) (round binary64 false a (down e)) a (down e) a (down e) C C (refl, refl) (own_round m e f) (le_refl (a * down e)))
    (round_mono binary64 a (down e) b d C D h)

-- what has the sign plus is at most its sum with what is not below 0
pub grows : (x y : Float) → T (fits binary64 x) → Plus x → T (le nought y) → T (le x (x ⊕ y))
unfolding of_bits
grows nan y f p h = absurd p
grows (inf true) y f p h = absurd (true≢false p)
grows (inf false) nan f p h = absurd (unfold le in h)
grows (inf false) (inf true) f p h = absurd (unfold le in h)
grows (inf false) (inf false) f p h = unfold le add in tt
grows (inf false) (fin t n d) f p h = unfold le add in tt
grows (fin true m e) y f p h = absurd (true≢false p)
grows (fin false m e) nan f p h = absurd (unfold le in h)
grows (fin false m e) (inf true) f p h = absurd (unfold le in h)
grows (fin false m e) (inf false) f p h = unfold le add in tt
grows (fin false m e) (fin t n d) f p h =
    let x = fin false m e in
    le_trans_all x (x ⊕ nought) (x ⊕ fin t n d)
    (rw (add_fin binary64 false m e false 0 (pos 0), sum_same binary64 false (m * up e * 1) (0 * 1 * down e) (down e * 1))
    (round_above m e f (m * up e * 1 + 0 * 1 * down e) (down e * 1) (mul-pos (down_pos e) (lit< tt)) (omega arith)))
    (add_mono binary64 (is_fin false m e) (is_fin false m e) (is_fin false 0 (pos 0)) (is_fin t n d) (parts→le false m e false m e (omega arith)) h)
