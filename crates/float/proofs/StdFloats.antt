-- What std's methods of `f64` give is what the definitions say. Assumes nothing.
use Rattle.std.proofs.Common.{◌≡◌, ℕ, zero, suc, ◌+◌, ◌-◌, ◌*◌, ◌/◌, ◌%◌, ◌<◌, Bool, true, false, cond, T, eqb, ℤ, refl, ap, ◌∙◌, add-mul, div-add-mod', mod-lt, true≢false, arith, eqb→eq}
use Rattle.std.proofs.lemmas.Nat.{div-mul-add}
use Rattle.std.specs.Float.{Float, nan, inf, fin, binary64, ratio_ceil, float_is_finite, ceil, round_with}
use lib.Ieee.{up, down, fits, neg, round, of_int}
use lib.Ieee.Fits.{down_pos, round-fits}
use lib.Ieee.Back.{whole_unique}
use Rattle.float.specs.Rounded.{whole}
use Rattle.float.specs.Order.{is_finite}
use Rattle.float.specs.Ceil.{ceil_of}
use Rattle.float.specs.Laws.Opened.{round_neg}
use Rattle.float.specs.Laws.TowardsZero.{whole_part, fits_plus}

pub finite_same : (x : Float) → float_is_finite x ≡ is_finite x
unfolding float_is_finite
finite_same nan = refl
finite_same (inf s) = refl
finite_same (fin s m e) = refl

-- ---- ceil: a fraction n / d rounded up, without a rest and with one
without_rest : (n d : ℕ) → 0 < d → n % d ≡ 0 → ratio_ceil n d ≡ n / d
without_rest n d D z =
    let p : n / d * d + n % d ≡ n = div-add-mod' n d in
    let e : n + d - 1 ≡ n / d * d + (d - 1) = omega arith in
    ap (λ (k : ℕ). k / d) e ∙ div-mul-add (n / d) d (d - 1) (omega arith)

with_rest : (n d : ℕ) → 0 < d → 0 < n % d → ratio_ceil n d ≡ n / d + 1
with_rest n d D r =
    let p : n / d * d + n % d ≡ n = div-add-mod' n d in
    let q : n % d < d = mod-lt n D in
    let e : n + d - 1 ≡ (n / d + 1) * d + (n % d - 1) = omega (arith, add-mul (n / d) 1 d) in
    ap (λ (k : ℕ). k / d) e ∙ div-mul-add (n / d + 1) d (n % d - 1) (omega arith)

-- a double that is whole is its whole part
stays : (m : ℕ) (e : ℤ) → T (fits binary64 (fin false m e)) → m * up e % down e ≡ 0 → whole (m * up e / down e) ≡ fin false m e
unfolding of_int
stays m e f z =
    let w = m * up e / down e in
    let p : w * down e + m * up e % down e ≡ m * up e = div-add-mod' (m * up e) (down e) in
    whole_unique binary64 (whole w) (fin false m e) false w (round-fits binary64 false w 1) f (whole_part m e f) (refl, omega arith)

some_rest : (r : ℕ) → eqb r 0 ≡ false → 0 < r
some_rest zero p = absurd (true≢false p)
some_rest (suc r) p = omega arith

module _ (m : ℕ) (e : ℤ) where
  abbrev w : ℕ
  w = m * up e / down e

  abbrev r : ℕ
  r = m * up e % down e

  plus : (b : Bool) → T (fits binary64 (fin false m e)) → eqb r 0 ≡ b → round binary64 false (ratio_ceil (m * up e) (down e)) 1 ≡ cond b (fin false m e) (whole (w + 1))
  unfolding of_int
  plus true f p = ap (λ (k : ℕ). round binary64 false k 1) (without_rest (m * up e) (down e) (down_pos e) (eqb→eq r 0 (rw p tt))) ∙ stays m e f (eqb→eq r 0 (rw p tt))
  plus false f p = ap (λ (k : ℕ). round binary64 false k 1) (with_rest (m * up e) (down e) (down_pos e) (some_rest r p))

  minus : (b : Bool) → T (fits binary64 (fin false m e)) → eqb r 0 ≡ b → round binary64 true w 1 ≡ cond b (fin true m e) (neg (whole w))
  unfolding of_int neg
  minus true f p = round_neg binary64 w 1 ∙ ap neg (stays m e f (eqb→eq r 0 (rw p tt)))
  minus false f p = round_neg binary64 w 1

pub ceil_same : (x : Float) → T (fits binary64 x) → ceil binary64 x ≡ ceil_of x
unfolding round_with ceil_of
ceil_same nan f = refl
ceil_same (inf s) f = refl
ceil_same (fin false m e) f = plus m e (eqb (r m e) 0) f refl
ceil_same (fin true m e) f = minus m e (eqb (r m e) 0) (fits_plus m e f) refl
