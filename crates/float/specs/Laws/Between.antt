-- Two to the y is never below 0 nor above 1, whatever y is. Assumes nothing.
-- `Within s x`: x is finite, has the sign s, and is at most 1 in size. Every operation of a step keeps sizes within 1 by `round_mono` alone.
use Rattle.std.specs.Prelude.{◌≡◌, ℕ, zero, suc, ◌+◌, ◌-◌, ◌*◌, ◌/◌, ◌^◌, ◌<◌, ◌≤◌, Bool, true, false, not, T, ◌⊎◌, ℤ, pos, ◌≢◌, nat_lt, Float}
use Rattle.std.proofs.Math.Path.{refl}
use Rattle.std.proofs.Common.{sym, ap, ◌∙◌, subst, inl, inr, le_trans, le_of_eq, le_of_lt, mul-one, mul_right_comm, suc-mul, add-mul, div-lt_iff_lt-mul, mul_comm, mul-le-mul, mul-le-mul_right, mul-pos, div-mul-le_self, arith, true≢false, ltb→lt, nltb→le, lit<, lit≤, pow_pos}
use Rattle.std.specs.Float.{nan, inf, fin, binary64}
use Rattle.std.specs.Float.Ieee.{up, down, round, neg, sum, add, sub, mul, div, lt, le, of_int, of_bits}
use Rattle.std.specs.Float.Ieee.Fits.{up_pos, down_pos}
use Rattle.std.specs.Float.Ieee.Exact.{HasValue}
use Rattle.std.specs.Float.Ieee.Order.{round_mono, le_of_values}
use Rattle.std.specs.Float.Ieee.Back.{round_whole}
use Rattle.std.specs.Float.Ieee.Scale.{round_same}
use Rattle.float.specs.Rounded.{◌⊖◌, ◌⊗◌, nought, one, whole}
use Rattle.float.specs.Cut.{cut_of, wholes}
use Rattle.float.specs.TwoTo.{step, steps, L, least, minus_power, two_to}
use Rattle.float.specs.Laws.Opened.{Plus, plus_round, round_neg, mul_fin, div_fin, add_fin, sum_away, sum_same, unlike_false, le_or}
use Rattle.float.specs.Laws.Compare.{lt_neg}
use Rattle.float.specs.Laws.Ordered.{is_fin, le_trans_all, le_of_not_lt}
use Rattle.float.specs.Laws.Whole.{whole_is, le_is}

-- a finite double of the sign s and of a size of at most 1
abbrev pub Within : Bool → Float → Type 0
Within s nan = ⊥
Within s (inf t) = ⊥
Within s (fin t m e) = (t ≡ s) × (m * up e ≤ down e)

-- ---- a size of at most 1 stays one when it is rounded
within_of_le : (x : Float) → Plus x → T (le x (fin false 1 (pos 0))) → Within false x
unfolding le
within_of_le nan p t = absurd p
within_of_le (inf true) p t = absurd (true≢false p)
within_of_le (inf false) p t = absurd t
within_of_le (fin true m e) p t = absurd (true≢false p)
within_of_le (fin false m e) p t = let h : m * up e * 1 ≤ 1 * down e = le_or (m * up e * 1) (1 * down e) t in (refl, omega arith)

one_is : round binary64 false 1 1 ≡ fin false 1 (pos 0)
unfolding round
one_is = refl

neg_within : (x : Float) → Within false x → Within true (neg x)
unfolding neg
neg_within nan h = absurd h
neg_within (inf s) h = absurd h
neg_within (fin true m e) h = absurd (true≢false h.0)
neg_within (fin false m e) h = (refl, h.1)

plus_within : (a c : ℕ) → 0 < c → a ≤ c → Within false (round binary64 false a c)
plus_within a c C h = within_of_le (round binary64 false a c) (plus_round binary64 a c) (rw one_is at (round_mono binary64 a c 1 1 C (lit< tt) (omega arith)))

-- rounding keeps a size of at most 1
pub round_within : (s : Bool) (a c : ℕ) → 0 < c → a ≤ c → Within s (round binary64 s a c)
round_within false a c C h = plus_within a c C h
round_within true a c C h = rw (round_neg binary64 a c) (neg_within (round binary64 false a c) (plus_within a c C h))

-- ---- z is between -1 and 0: its sign is minus, or it is zero
abbrev pub Down : Float → Type 0
Down nan = ⊥
Down (inf s) = ⊥
Down (fin s m e) = ((s ≡ true) ⊎ (m ≡ 0)) × (m * up e ≤ down e)

zero_is : (s : Bool) (c : ℕ) → 0 < c → round binary64 s 0 c ≡ fin s 0 (pos 0)
zero_is s c C = round_same binary64 s 0 c 0 1 C (lit< tt) (omega arith) ∙ at_one s
  where
    at_one : (s : Bool) → round binary64 s 0 1 ≡ fin s 0 (pos 0)
    at_one s = unfold round in refl

down_of_within : (x : Float) → Within true x → Down x
down_of_within nan h = absurd h
down_of_within (inf s) h = absurd h
down_of_within (fin s m e) h = (inl h.0, h.1)

-- rounding keeps what is from −1 to 0
pub round_down : (s : Bool) (a c : ℕ) → 0 < c → a ≤ c → (s ≡ true) ⊎ (a ≡ 0) → Down (round binary64 s a c)
round_down true a c C h k = down_of_within (round binary64 true a c) (round_within true a c C h)
round_down false a c C h (inl e) = absurd (true≢false (sym e))
round_down false a c C h (inr e) = rw e (rw (zero_is false c C) (inr refl, omega arith))

still : (s : Bool) (m u v : ℕ) → (s ≡ true) ⊎ (m ≡ 0) → (s ≡ true) ⊎ (m * u * v ≡ 0)
still s m u v (inl e) = inl e
still s m u v (inr e) = inr (rw e (omega arith))

-- a product of what is from −1 to 0 and what is from 0 to 1
pub mul_down : (z h : Float) → Down z → Within false h → Down (mul binary64 z h)
mul_down nan h p q = absurd p
mul_down (inf s) h p q = absurd p
mul_down (fin s m e) nan p q = absurd q
mul_down (fin s m e) (inf t) p q = absurd q
mul_down (fin s m e) (fin true n d) p q = absurd (true≢false q.0)
mul_down (fin s m e) (fin false n d) p q =
    rw (mul_fin binary64 s m e false n d, unlike_false s)
    (round_down s (m * up e * (n * up d)) (down e * down d) (mul-pos (down_pos e) (down_pos d)) (mul-le-mul p.1 q.1) (still s m (up e) (n * up d) p.0))

-- a product of two that are from 0 to 1
pub mul_within : (z h : Float) → Within false z → Within false h → Within false (mul binary64 z h)
mul_within nan h p q = absurd p
mul_within (inf s) h p q = absurd p
mul_within (fin s m e) nan p q = absurd q
mul_within (fin s m e) (inf t) p q = absurd q
mul_within (fin true m e) (fin t n d) p q = absurd (true≢false p.0)
mul_within (fin false m e) (fin true n d) p q = absurd (true≢false q.0)
mul_within (fin false m e) (fin false n d) p q =
    rw (mul_fin binary64 false m e false n d)
    (round_within false (m * up e * (n * up d)) (down e * down d) (mul-pos (down_pos e) (down_pos d)) (mul-le-mul p.1 q.1))

-- by a whole number n of 1 at least
pub div_down : (z w : Float) (n : ℕ) → Down z → 0 < n → HasValue w false n 1 → Down (div binary64 z w)
div_down nan w n p N v = absurd p
div_down (inf s) w n p N v = absurd p
div_down (fin s m e) nan n p N v = absurd v
div_down (fin s m e) (inf t) n p N v = absurd v
div_down (fin s m e) (fin true q d) n p N v = absurd (true≢false v.0)
div_down (fin s m e) (fin false zero d) n p N v =
    absurd (let h : 0 * up d * 1 ≡ n * down d = v.1 in let k : 0 < n * down d = mul-pos N (down_pos d) in omega arith)
div_down (fin s m e) (fin false (suc q) d) n p N v =
    let h : suc q * up d * 1 ≡ n * down d = v.1 in
    let k : 1 * down d ≤ n * down d = mul-le-mul_right (down d) N in
    let l : down d ≤ suc q * up d = omega arith in
    rw (div_fin binary64 s m e false q d, unlike_false s)
    (round_down s (m * up e * down d) (suc q * up d * down e) (mul-pos (mul-pos (omega arith) (up_pos d)) (down_pos e))
    (le_trans (mul-le-mul p.1 l) (le_of_eq (mul_comm (down e) (suc q * up d))))
    (still s m (up e) (down d) p.0))

-- 1 + z
pub add_down : (z : Float) → Down z → Within false (add binary64 (fin false 1 (pos 0)) z)
add_down nan p = absurd p
add_down (inf s) p = absurd p
add_down (fin true m e) p =
    let h : m * up e ≤ down e = p.1 in
    let d : 0 < down e = down_pos e in
    rw (add_fin binary64 false 1 (pos 0) true m e, sum_away binary64 false (1 * down e) (m * up e * 1) (1 * down e) (omega arith))
    (round_within false (1 * down e - m * up e * 1) (1 * down e) (omega arith) (omega arith))
add_down (fin false m e) (inl k, h) = absurd (true≢false (sym k))
add_down (fin false m e) (inr k, h) =
    let d : 0 < down e = down_pos e in
    rw (k, add_fin binary64 false 1 (pos 0) false 0 e, sum_same binary64 false (1 * down e) (0 * up e * 1) (1 * down e))
    (round_within false (1 * down e + 0 * up e * 1) (1 * down e) (omega arith) (omega arith))

-- ---- the steps
pub step_within : (z h : Float) (n : ℕ) → Down z → 0 < n → n ≤ 2 ^ 53 → Within false h → Within false (step z n h)
unfolding step of_int of_bits
step_within z h n p N k q =
    add_down (div binary64 (mul binary64 z h) (of_int binary64 (pos n)))
    (div_down (mul binary64 z h) (of_int binary64 (pos n)) n (mul_down z h p q) N (round_whole binary64 false n k))

-- the series' steps stay from 0 to 1
pub steps_within : (z h : Float) (n : ℕ) → Down z → n ≤ 2 ^ 53 → Within false h → Within false (steps z n h)
unfolding steps
steps_within z h zero p k q = q
steps_within z h (suc n) p k q = steps_within z (step z (suc n) h) n p (omega arith) (step_within z h (suc n) p (omega arith) k q)

-- ---- z itself: the part of y below 0 that is left once its c whole ones are taken off, times L
pub opened :
    (m : ℕ) (e : ℤ) (q : ℕ) (d : ℤ) →
    sub binary64 (fin true m e) (neg (fin false q d)) ≡ sum binary64 true (m * up e * down d) false (q * up d * down e) (down e * down d)
unfolding sub
opened m e q d = refl

more_or_none : (a b : ℕ) → b ≤ a → (nat_lt b a ≡ true) ⊎ (a - b ≡ 0)
more_or_none a b h = go (nat_lt b a) (nltb→le b a)
  where
    go : (x : Bool) → (T (not x) → a ≤ b) → (x ≡ true) ⊎ (a - b ≡ 0)
    go true k = inl refl
    go false k = let l : a ≤ b = k tt in inr (omega arith)

rest_down :
    (m : ℕ) (e : ℤ) (w : Float) (c : ℕ) →
    c * down e ≤ m * up e →
    m * up e < suc c * down e →
    HasValue w false c 1 →
    Down (sub binary64 (fin true m e) (neg w))
rest_down m e nan c a b v = absurd v
rest_down m e (inf t) c a b v = absurd v
rest_down m e (fin true q d) c a b v = absurd (true≢false v.0)
rest_down m e (fin false q d) c a b v =
    let x : c * down e * down d ≤ m * up e * down d = mul-le-mul_right (down d) a in
    let y : m * up e * down d ≤ suc c * down e * down d = mul-le-mul_right (down d) (le_of_lt b) in
    let u : q * up d ≡ c * down d = sym (mul-one (q * up d)) ∙ v.1 in
    let r : q * up d * down e ≡ c * down e * down d = ap (λ (k : ℕ). k * down e) u ∙ mul_right_comm c (down d) (down e) in
    let s : suc c * down e * down d ≡ c * down e * down d + down e * down d =
    ap (λ (k : ℕ). k * down d) (suc-mul c (down e)) ∙ add-mul (c * down e) (down e) (down d) in
    let l : q * up d * down e ≤ m * up e * down d = omega arith in
    rw (opened m e q d, sum_away binary64 true (m * up e * down d) (q * up d * down e) (down e * down d) l)
    (round_down (nat_lt (q * up d * down e) (m * up e * down d)) (m * up e * down d - q * up d * down e) (down e * down d)
    (mul-pos (down_pos e) (down_pos d)) (omega arith)
    (more_or_none (m * up e * down d) (q * up d * down e) l))

L-within : Within false L
unfolding of_bits
L-within = (refl, lit≤ tt)

power_within : (c : ℕ) → Within false (minus_power c)
power_within zero = (refl, lit≤ tt)
power_within (suc c) = (refl, omega (arith, pow_pos (suc c)))

le_of_not_lt_nat : {a b : ℕ} → (b < a → ⊥) → a ≤ b
le_of_not_lt_nat {a} {b} f = go (nat_lt b a) (ltb→lt b a) (nltb→le b a)
  where
    go : (x : Bool) → (T x → b < a) → (T (not x) → a ≤ b) → a ≤ b
    go true p q = absurd (f (p tt))
    go false p q = q tt

-- ---- k, which is −c, is no less than −1022 only where c is at most 1022
above_least : (w : Float) → Plus w → T (le (whole 1023) w) → T (not (lt (whole 1022) w)) → ⊥
unfolding lt of_int round
above_least nan p h k = absurd p
above_least (inf true) p h k = absurd (true≢false p)
above_least (inf false) p h k = absurd k
above_least (fin s m e) p h k =
    subst T (le_is (whole 1023) (whole 1022) 1023 1022 (whole_is 1023 (lit≤ tt)) (whole_is 1022 (lit≤ tt)))
    (le_trans_all (whole 1023) (fin s m e) (whole 1022) h (le_of_not_lt (whole 1022) (fin s m e) (is_fin false 511 (pos 1)) (is_fin s m e) k))

-- a cut number that is not below −1022
pub no_less : (c : ℕ) → lt (neg (whole c)) least ≡ false → c ≤ 1022
unfolding of_int
no_less c e =
    le_of_not_lt_nat (λ h.
    above_least (whole c) (plus_round binary64 c 1) (round_mono binary64 1023 1 c 1 (lit< tt) (lit< tt) (omega arith))
    (subst (λ (b : Bool). T (not b)) (sym (sym (lt_neg (whole c) (whole 1022)) ∙ e)) tt))

-- the series of what a cut leaves is from 0 to 1
pub steps_of_rest : (m : ℕ) (e : ℤ) → m * up e / down e ≤ 1022 → Within false (steps ((fin true m e ⊖ neg (whole (m * up e / down e))) ⊗ L) 20 one)
unfolding of_int of_bits
steps_of_rest m e h =
    let c = m * up e / down e in
    let z = fin true m e ⊖ neg (whole c) in
    let r =
    rest_down m e (whole c) c (div-mul-le_self (m * up e) (down e)) ((div-lt_iff_lt-mul (down_pos e)).0 (lt_add_one' c))
    (round_whole binary64 false c (omega arith)) in
    steps_within (z ⊗ L) one 20 (mul_down z L r L-within) (lit≤ tt) (refl, lit≤ tt)
  where
    lt_add_one' : (c : ℕ) → c < suc c
    lt_add_one' c = omega arith

minus_within :
    (m : ℕ) (e : ℤ) (k : ℕ) → m * up e / down e ≤ 1022 →
    Within false (steps ((fin true m e ⊖ neg (whole (m * up e / down e))) ⊗ L) 20 one ⊗ minus_power k)
minus_within m e k h = mul_within (steps ((fin true m e ⊖ neg (whole (m * up e / down e))) ⊗ L) 20 one) (minus_power k) (steps_of_rest m e h) (power_within k)

nought_within : Within false nought
unfolding of_bits
nought_within = (refl, lit≤ tt)

one_within : Within false one
unfolding of_bits
one_within = (refl, lit≤ tt)

-- the definition, by what its two tests say
by_tests :
    (y : Float) (a b : Bool) →
    lt y nought ≡ a →
    lt (cut_of y) least ≡ b →
    (lt y nought ≡ true → lt (cut_of y) least ≡ false → Within false (steps ((y ⊖ cut_of y) ⊗ L) 20 one ⊗ minus_power (wholes (cut_of y)))) →
    Within false (two_to y)
unfolding two_to
by_tests y true true p q h = rw (p, q) nought_within
by_tests y true false p q h = rw (p, q) (h p q)
by_tests y false b p q h = rw p one_within

-- what is below 0 has the minus sign, and cut it is no less than −1022 only where it is finite
pub nan_not_below : lt nan nought ≡ true → ⊥
unfolding lt
nan_not_below p = true≢false (sym p)

-- a size with the sign plus is not below 0
pub plus_not_below : (m : ℕ) (e : ℤ) → lt (fin false m e) nought ≢ true
unfolding lt of_bits
plus_not_below m e p = let h : m * up e * 1 < 0 * down e = ltb→lt (m * up e * 1) (0 * down e) (subst T (sym p) tt) in omega arith

-- minus infinity is below −1022
pub inf_not_least : (s : Bool) → lt (inf s) nought ≡ true → lt (cut_of (inf s)) least ≢ false
unfolding lt of_bits cut_of neg of_int round
inf_not_least true p q = true≢false q
inf_not_least false p q = true≢false (sym p)

finite_within :
    (s : Bool) (m : ℕ) (e : ℤ) → lt (fin s m e) nought ≡ true → lt (cut_of (fin s m e)) least ≡ false →
    Within false (steps ((fin s m e ⊖ cut_of (fin s m e)) ⊗ L) 20 one ⊗ minus_power (wholes (cut_of (fin s m e))))
unfolding cut_of
finite_within true m e p q = minus_within m e (wholes (neg (whole (m * up e / down e)))) (no_less (m * up e / down e) q)
finite_within false m e p q = absurd (plus_not_below m e p)

two_to_within : (y : Float) → Within false (two_to y)
two_to_within y = by_tests y (lt y nought) (lt (cut_of y) least) refl refl (below y)
  where
    below : (y : Float) → lt y nought ≡ true → lt (cut_of y) least ≡ false → Within false (steps ((y ⊖ cut_of y) ⊗ L) 20 one ⊗ minus_power (wholes (cut_of y)))
    below nan p q = absurd (nan_not_below p)
    below (inf s) p q = absurd (inf_not_least s p q)
    below (fin s m e) p q = finite_within s m e p q

-- ---- as `le` says it
within_le : (x : Float) → Within false x → T (le nought x) × T (le x one)
unfolding of_bits
within_le nan p = absurd p
within_le (inf s) p = absurd p
within_le (fin true m e) p = absurd (true≢false p.0)
within_le (fin false m e) p =
    let h : m * up e ≤ down e = p.1 in (
      le_of_values nought (fin false m e) 0 1 (m * up e) (down e) (lit< tt) (down_pos e) (refl, refl) (refl, refl) (omega arith),
      le_of_values (fin false m e) one (m * up e) (down e) 1 1 (down_pos e) (lit< tt) (refl, refl) (refl, refl) (omega arith),
    )

-- two to any y is from 0 to 1
pub between_0_and_1 : (y : Float) → T (le nought (two_to y)) × T (le (two_to y) one)
between_0_and_1 y = within_le (two_to y) (two_to_within y)
