-- Neither the window nor the opening of a DenStream asks ln below 1, where document 01 does not define it. Assumes nothing.
use Rattle.std.specs.Prelude.{ℕ, zero, suc, ◌+◌, ◌*◌, ◌≤◌, ◌<◌, ◌≡◌, refl, Bool, true, false, cond, not, ◌⊎◌, ℤ, pos, neg_ℤ, T, ltb, Float}
use Rattle.std.proofs.Common.{sym, ap, ◌∙◌, subst, true≢false, inl, inr, ⊎_elim, arith, mul-pos, mul_comm, mul-le-mul, zero-mul, lt-ltb}
use Rattle.std.specs.Float.{nan, inf, fin, binary64}
use Rattle.std.specs.Float.Ieee.{up, down, round, mul, div, lt, le, eq, is_nan, of_bits, of_int}
use Rattle.std.specs.Float.Ieee.Fits.{down_pos, up_pos, mul-fits}
use Rattle.float.specs.Rounded.{◌⊖◌, ◌⊗◌, ◌⊘◌, one, two, whole}
use Rattle.float.specs.Laws.Computed.{computed}
use Rattle.float.specs.Order.{larger}
use Rattle.float.specs.Ln.{ln_of}
use Rattle.float.specs.Laws.Ln as ln
use Rattle.float.specs.Laws.Opened.{Plus, plus_round, mul_fin, div_fin, div_nan}
use Rattle.float.specs.Laws.Ordered.{is_fin, le→parts, le_trans_all, le_of_not_lt, round_mono_signed}
use Rattle.adwin.specs.Settings.{side, least, most}
use Rattle.adwin.specs.Window.{clamped}
use Rattle.model.specs.Periods.{bm_of}
use Rattle.model.specs.Laws.Tp.{ratio_in}

-- at least 1, or a NaN, which stays itself
abbrev pub Asked : Float → Type 0
Asked x = T (le one x) ⊎ (x ≡ nan)

-- "while the width is at least 10": the width that ln is asked
ten : T (le one (two ⊗ side))
unfolding computed
ten = tt

-- "while the width is at least 10": ln is asked no less
pub width_asked : (width : Float) → le (two ⊗ side) width ≡ true → T (le one width)
width_asked width e = le_trans_all one (two ⊗ side) width ten (subst T (sym e) tt)

-- ---- the argument of g
one_is_whole : one ≡ whole 1
unfolding of_bits of_int
one_is_whole = refl

above_one : (a c : ℕ) → 0 < c → c ≤ a → T (le one (round binary64 false a c))
unfolding of_int
above_one a c z h =
    let rounded = round_mono_signed binary64 false 1 1 false a c (omega arith) z (omega arith) in
    subst (λ (o : Float). T (le o (round binary64 false a c))) (sym one_is_whole) rounded

at_least : (m : ℕ) (e : ℤ) → T (le one (fin false m e)) → down e ≤ m * up e
unfolding of_bits
at_least m e h = let p = le→parts false 1 (pos 0) false m e h in omega arith

-- a quotient of what is at least 1 by what is at most 1
over : (z : Float) (n : ℕ) (e : ℤ) → Plus z → T (le one z) → suc n * up e ≤ down e → T (le one (z ⊘ fin false (suc n) e))
unfolding div le lt eq of_bits
over nan n e p h k = absurd p
over (inf true) n e p h k = absurd (true≢false p)
over (inf false) n e p h k = tt
over (fin true m d) n e p h k = absurd (true≢false p)
over (fin false m d) n e p h k = quotient
  where
    quotient : T (le one (fin false m d ⊘ fin false (suc n) e))
    quotient =
        let some : 0 < suc n * up e * down d = mul-pos (mul-pos (omega arith) (up_pos e)) (down_pos d) in
        let g : suc n * up e * down d ≤ down e * (m * up d) = mul-le-mul k (at_least m d h) in
        let c = mul_comm (down e) (m * up d) in
        subst (λ (q : Float). T (le one q)) (sym (div_fin binary64 false m d false n e))
        (above_one (m * up d * down e) (suc n * up e * down d) some (omega arith))

-- twice what is at least 1
doubled_fin : (m : ℕ) (e : ℤ) → T (le one (fin false m e)) → Plus (two ⊗ fin false m e) × T (le one (two ⊗ fin false m e))
unfolding of_bits
doubled_fin m e h =
    subst (λ (q : Float). Plus q × T (le one q)) (sym (mul_fin binary64 false 1 (pos 1) false m e)) (
      plus_round binary64 (1 * 2 * (m * up e)) (1 * down e),
      above_one (1 * 2 * (m * up e)) (1 * down e) (omega (arith, down_pos e)) (omega (arith, at_least m e h)),
    )

doubled : (y : Float) → T (le one y) → Plus (two ⊗ y) × T (le one (two ⊗ y))
unfolding mul le lt eq of_bits
doubled nan h = absurd h
doubled (inf true) h = absurd h
doubled (inf false) h = (refl, tt)
doubled (fin true m e) h = absurd (let p = le→parts false 1 (pos 0) true m e h in omega (arith, down_pos e))
doubled (fin false m e) h = doubled_fin m e h

-- "max(1, ln width)"
larger_asked : (l : Float) → T (le one (larger l one))
unfolding le lt eq is_nan of_bits
larger_asked nan = tt
larger_asked (inf true) = tt
larger_asked (inf false) = tt
larger_asked (fin s m e) = go (lt (fin s m e) one) refl
  where
    go : (b : Bool) → lt (fin s m e) one ≡ b → T (le one (cond b one (fin s m e)))
    go true q = tt
    go false q = le_of_not_lt (fin s m e) one (is_fin s m e) (is_fin false 1 (pos 0)) (subst (λ (b : Bool). T (not b)) (sym q) tt)

-- ---- the clamped delta: a NaN, or above 0 and at most 1
pub record Share (x : Float) : Type 0 where
  pub size : ℕ
  pub power : ℤ
  pub is : x ≡ fin false (suc size) power
  pub most : suc size * up power ≤ down power

small : (e : ℤ) → up e ≡ 1 → suc 0 * up e ≤ down e
small e q = omega (arith, down_pos e)

least_share : Share least
unfolding of_bits
least_share = record { size = 0; power = neg_ℤ (pos 1022); is = refl; most = small (neg_ℤ (pos 1022)) refl }

most_share : Share most
unfolding of_bits
most_share = record { size = 4503599627370494; power = neg_ℤ (pos 52); is = refl; most = omega arith }

nothing_below : (a c b : ℕ) → 0 < b → ltb (0 * a * c) b ≡ true
nothing_below a c b h = lt-ltb (0 * a * c) b (rw (zero-mul a, zero-mul c) h)

some_above : (a b : ℕ) → 0 < b → ltb 0 (a + b) ≡ true
some_above a b h = lt-ltb 0 (a + b) (omega arith)

none_small : (e : ℤ) → lt (fin false zero e) least ≡ true
unfolding lt of_bits
none_small e = nothing_below (up e) (down (neg_ℤ (pos 1022))) (1 * 1 * down e) (omega (arith, down_pos e))

minus_small : (m : ℕ) (e : ℤ) → lt (fin true m e) least ≡ true
unfolding lt of_bits
minus_small m e = some_above (m * up e * down (neg_ℤ (pos 1022))) (1 * 1 * down e) (omega (arith, down_pos e))

under_most : (n : ℕ) (e : ℤ) → lt most (fin false (suc n) e) ≡ false → suc n * up e ≤ down e
unfolding of_bits
under_most n e q =
    let bound = is_fin false 4503599627370495 (neg_ℤ (pos 52)) in
    let h = le_of_not_lt most (fin false (suc n) e) bound (is_fin false (suc n) e) (subst (λ (b : Bool). T (not b)) (sym q) tt) in
    let p = le→parts false (suc n) e false 4503599627370495 (neg_ℤ (pos 52)) h in
    omega arith

between : (s : Bool) (m : ℕ) (e : ℤ) → lt (fin s m e) least ≡ false → lt most (fin s m e) ≡ false → Share (fin s m e)
between true m e a b = absurd (true≢false (sym (minus_small m e) ∙ a))
between false zero e a b = absurd (true≢false (sym (none_small e) ∙ a))
between false (suc n) e a b = record { size = n; power = e; is = refl; most = under_most n e b }

delta_cases : (d : Float) → Share (clamped d) ⊎ (clamped d ≡ nan)
unfolding lt of_bits
delta_cases nan = inr refl
delta_cases (inf true) = inl least_share
delta_cases (inf false) = inl most_share
delta_cases (fin s m e) = inl (go (lt (fin s m e) least) refl (lt most (fin s m e)) refl)
  where
    go : (a : Bool) → lt (fin s m e) least ≡ a → (b : Bool) → lt most (fin s m e) ≡ b → Share (cond a least (cond b most (fin s m e)))
    go true p b q = least_share
    go false p true q = most_share
    go false p false q = between s m e p q

-- "g = ln(2×max(1, ln width)/delta)": its argument, for every delta that a window is opened with
pub g_asked : (d width : Float) → Asked (two ⊗ larger (ln_of width) one ⊘ clamped d)
g_asked d width =
    let y = larger (ln_of width) one in
    let z = doubled y (larger_asked (ln_of width)) in
    ⊎_elim (λ h. inl (subst (λ (q : Float). T (le one (two ⊗ y ⊘ q))) (sym h.is) (over (two ⊗ y) h.size h.power z.0 z.1 h.most)))
    (λ h. inr (ap (λ (q : Float). two ⊗ y ⊘ q) h ∙ div_nan binary64 (two ⊗ y))) (delta_cases d)

-- "log2(bm/(bm−1))" of tp: its argument, for every beta × mu above 1
pub tp_asked : (beta mu : Float) → lt one (bm_of beta mu) ≡ true → Asked (bm_of beta mu ⊘ (bm_of beta mu ⊖ one))
tp_asked beta mu e = ⊎_elim inr (λ i. inl (ln.above_one i)) (ratio_in (bm_of beta mu) (mul-fits binary64 beta mu) e)
