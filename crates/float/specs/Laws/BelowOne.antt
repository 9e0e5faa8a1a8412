-- Where y is at most −2^−32, two to the y is at most 1 − 2^−34, so that less 1 it is not 0. Bounds in units of 2^−34. Assumes nothing.
use Rattle.std.specs.Prelude.{◌≡◌, ℕ, zero, suc, ◌+◌, ◌-◌, ◌*◌, ◌/◌, ◌^◌, ◌<◌, ◌≤◌, Bool, true, false, cond, T, ℤ, pos, neg_ℤ, refl, Float}
use Rattle.std.proofs.Common.{sym, ap, ◌∙◌, subst, mul-one, pow-suc, mul-div_cancel, div-lt_iff_lt-mul, arith, true≢false, lit<, lit≤, pow_pos}
use borrow.Author.Tests.{lt-ltb, ne_eqb}
use Rattle.std.specs.Float.{nan, inf, fin, binary64}
use Rattle.std.specs.Float.Ieee.{up, down, neg, lt, le, eq, of_bits, of_int}
use Rattle.std.specs.Float.Ieee.Fits.{down_pos}
use Rattle.float.specs.Rounded.{◌⊖◌, ◌⊗◌, nought, one, whole, Is}
use Rattle.float.specs.Cut.{cut_of, wholes}
use Rattle.float.specs.Laws.Computed.{computed}
use Rattle.float.specs.TwoTo.{L, step, steps, minus_power, least, two_to}
use Rattle.float.specs.Laws.Opened.{sum_away}
use Rattle.float.specs.Laws.Ordered.{is_fin, zero_round, le→parts, parts→le, sub_mono}
use Rattle.float.specs.Laws.Whole.{whole_is}
use Rattle.float.specs.Laws.Bounds.{In, sized, round_in, one_in, whole_in, mul_in, div_in, away_in}
use Rattle.float.specs.Laws.Between.{Within, opened, steps_of_rest, no_less}

abbrev u : ℕ
u = 2 ^ 34

-- −2^−c
abbrev pub minus_of : ℕ → Float
minus_of c = fin true 1 (neg_ℤ (pos c))

-- not below 0, and at most 1 − 2^−34
abbrev Under : Float → Type 0
Under x = In false u 0 (u - 1) x

-- "The answer is h × 2^k", c being −k: the h of y = −m × 2^e
abbrev summed : ℕ → ℤ → ℕ → Float
summed m e c = steps ((fin true m e ⊖ neg (whole c)) ⊗ L) 20 one

L-in : In false u (2 ^ 33) u L
unfolding of_bits
L-in = sized 6243314768165359 (neg_ℤ (pos 53)) (lit≤ tt) (lit≤ tt)

-- "start h at 1"
start_in : In false u (2 ^ 33) u one
unfolding of_bits
start_in = sized 1 (pos 0) (lit≤ tt) (lit≤ tt)

-- ---- "h becomes 1 + (z × h) / n", z below 0: h is at least a half until the last step, which takes it below 1
step_half : {z h : Float} (n : ℕ) → n ≤ 18 → In true u 2 u z → In false u (2 ^ 33) u h → In false u (2 ^ 33) u (step z (suc (suc n)) h)
unfolding step
step_half n N i k =
    away_in 34 tt (2 ^ 33) u tt (one_in 34 tt)
    (div_in 34 tt 0 (2 ^ 33) tt tt (mul_in 34 tt 0 u tt i k) (whole_in 34 tt (suc (suc n)) (2 ^ 35) (20 * u) (omega arith) (omega arith) (omega arith)))

step_last : {z h : Float} → In true u 2 u z → In false u (2 ^ 33) u h → Under (step z 1 h)
unfolding step
step_last i k =
    away_in 34 tt 0 (u - 1) tt (one_in 34 tt)
    (div_in 34 tt 1 u tt tt (mul_in 34 tt 1 u tt i k) (whole_in 34 tt 1 u u (omega arith) (omega arith) (omega arith)))

steps_below : {z h : Float} (n : ℕ) → n ≤ 19 → In true u 2 u z → In false u (2 ^ 33) u h → Under (steps z (suc n) h)
unfolding steps
steps_below zero N i k = step_last i k
steps_below {z = z} {h = h} (suc n) N i k = steps_below {h = step z (suc (suc n)) h} n (omega arith) i (step_half n (omega arith) i k)

-- ---- y above −1, where k is 0
rest_in : (m : ℕ) (e : ℤ) → down e ≤ m * up e * 2 ^ 32 → m * up e < down e → In true u 4 u (fin true m e ⊖ neg (whole 0))
unfolding of_int
rest_in m e low high =
    let D : 0 < down e = down_pos e in
    let b = lt-ltb (0 * 1 * down e) (m * up e * 1) (omega arith) in
    rw (zero_round binary64 false 1 (lit< tt), opened m e 0 (pos 0), sum_away binary64 true (m * up e * 1) (0 * 1 * down e) (down e * 1) (omega arith), b)
    (round_in 34 tt true 4 u (m * up e * 1 - 0 * 1 * down e) (down e * 1) tt (omega arith) (omega arith, omega arith))

near : (m : ℕ) (e : ℤ) → down e ≤ m * up e * 2 ^ 32 → m * up e < down e → Under (summed m e 0 ⊗ minus_power 0)
near m e low high =
    mul_in 34 tt 0 (u - 1) tt
    (steps_below 19 (lit≤ tt) (mul_in 34 tt 2 u tt (rest_in m e low high) L-in) start_in)
    (sized {u = u} {a = u} {b = u} 1 (neg_ℤ (pos 0)) (lit≤ tt) (lit≤ tt))

-- ---- y at most −1: two to the k is at most a half
within_in : (x : Float) → Within false x → In false u 0 u x
within_in nan h = absurd h
within_in (inf s) h = absurd h
within_in (fin true m e) h = absurd (true≢false h.0)
within_in (fin false m e) h = sized {u = u} {a = 0} {b = u} m e (omega arith) (omega (arith, h.1))

half_in : (k : ℕ) → In false u 0 (2 ^ 33) (minus_power (suc k))
half_in k = sized {u = u} {a = 0} {b = 2 ^ 33} 1 (neg_ℤ (pos (suc k))) (omega arith) (omega (arith, pow-suc 2 k, pow_pos k))

far : (m : ℕ) (e : ℤ) (k : ℕ) → m * up e / down e ≤ 1022 → Under (summed m e (m * up e / down e) ⊗ minus_power (suc k))
far m e k h = mul_in 34 tt 0 (u - 1) tt (within_in (summed m e (m * up e / down e)) (steps_of_rest m e h)) (half_in k)

-- ---- all y
wholes_minus : (n : ℕ) → n ≤ 2 ^ 53 → wholes (neg (whole n)) ≡ n
unfolding neg
wholes_minus n h = go (whole n) (whole_is n h)
  where
    go : (x : Float) → Is x n → wholes (neg x) ≡ n
    go nan p = absurd p
    go (inf s) p = absurd p
    go (fin s m e) p = ap (λ (k : ℕ). k / down e) (sym (mul-one (m * up e)) ∙ p.1) ∙ mul-div_cancel n (down_pos e)

by_wholes : (m : ℕ) (e : ℤ) (c : ℕ) → m * up e / down e ≡ c → c ≤ 1022 → down e ≤ m * up e * 2 ^ 32 → Under (summed m e c ⊗ minus_power c)
by_wholes m e zero i h low = near m e low (let k : m * up e < 1 * down e = (div-lt_iff_lt-mul (down_pos e)).0 (omega arith) in omega arith)
by_wholes m e (suc c) i h low = subst (λ (n : ℕ). Under (summed m e n ⊗ minus_power (suc c))) i (far m e c (omega arith))

nought_in : Under nought
unfolding of_bits
nought_in = sized 0 (pos 0) (lit≤ tt) (lit≤ tt)

minus_in : (m : ℕ) (e : ℤ) → down e ≤ m * up e * 2 ^ 32 → Under (two_to (fin true m e))
unfolding two_to cut_of
minus_in m e low = rw minus (by_least (lt (neg (whole c)) least) refl)
  where
    c : ℕ
    c = m * up e / down e

    minus : lt (fin true m e) nought ≡ true
    minus = unfold lt of_bits in lt-ltb 0 (m * up e * 1 + 0 * 1 * down e) (omega (arith, down_pos e))

    by_least : (b : Bool) → lt (neg (whole c)) least ≡ b → Under (cond b nought (summed m e c ⊗ minus_power (wholes (neg (whole c)))))
    by_least true q = nought_in
    by_least false q = let k : c ≤ 1022 = no_less c q in rw (wholes_minus c (omega arith)) (by_wholes m e c refl k low)

inf_in : Under (two_to (inf true))
unfolding computed
inf_in = sized 0 (pos 0) (lit≤ tt) (lit≤ tt)

below_one : (y : Float) → T (le y (minus_of 32)) → Under (two_to y)
below_one nan h = absurd (unfold le in h)
below_one (inf true) h = inf_in
below_one (inf false) h = absurd (unfold le in h)
below_one (fin false m e) h = absurd (let p = le→parts false m e true 1 (neg_ℤ (pos 32)) h in omega (arith, down_pos e))
below_one (fin true m e) h = minus_in m e (let p = le→parts true m e true 1 (neg_ℤ (pos 32)) h in omega arith)

-- ---- so less 1 it is at most −2^−34, and not 0
abbrev largest : Float
largest = fin false 17179869183 (neg_ℤ (pos 34))

less_largest : largest ⊖ one ≡ minus_of 34
unfolding computed
less_largest = refl

less_one : {x : Float} → Under x → T (le (x ⊖ one) (minus_of 34))
unfolding of_bits
less_one (sized m e l h) =
    subst (λ (z : Float). T (le (fin false m e ⊖ one) z)) less_largest
    (sub_mono binary64 (is_fin false m e) (is_fin false 17179869183 (neg_ℤ (pos 34))) (is_fin false 1 (pos 0)) (is_fin false 1 (pos 0))
    (parts→le false m e false 17179869183 (neg_ℤ (pos 34)) (omega arith)) (parts→le false 1 (pos 0) false 1 (pos 0) (omega arith)))

not_nought : (x : Float) → T (le x (minus_of 34)) → eq x nought ≡ false
unfolding eq of_bits
not_nought nan h = refl
not_nought (inf s) h = refl
not_nought (fin false m e) h = absurd (let p = le→parts false m e true 1 (neg_ℤ (pos 34)) h in omega (arith, down_pos e))
not_nought (fin true m e) h =
    let p = le→parts true m e true 1 (neg_ℤ (pos 34)) h in
    rw (ne_eqb (m * up e * 1) (0 * down e) (λ q. omega (arith, down_pos e)))

-- two to a y of at most −2^−32 is not 1
pub less_one_some : (y : Float) → T (le y (minus_of 32)) → eq (two_to y ⊖ one) nought ≡ false
less_one_some y h = not_nought (two_to y ⊖ one) (less_one (below_one y h))
