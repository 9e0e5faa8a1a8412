-- A double whose rounded square is below y is at most the root of y. Every double is meant: NaN, infinities, zeros and both signs. Assumes nothing.
use Rattle.std.specs.Prelude.{◌≡◌, ℕ, zero, suc, ◌+◌, ◌-◌, ◌*◌, ◌^◌, ◌<◌, ◌≤◌, Bool, true, false, not, T, ℤ, Float}
use Rattle.std.proofs.Math.Path.{refl}
use Rattle.std.proofs.Common.{sym, ap, ◌∙◌, zero-le, le_refl, le_trans, le_of_eq, le_of_lt, lt_of_lt_of_le, lt_of_le_of_lt, lt_of_not-le, lt_of_mul-lt-mul_right, mul_assoc, mul-pos, mul-le-mul_left, mul-le-mul_right, arith, T_not, pow-add, pow_pos, pow_mono, shl_lt}
use Rattle.std.proofs.Math.Logic.{by_cases}
use Rattle.std.proofs.Math.Nat.{zero-mul, mul-mul-mul_comm}
use Rattle.std.proofs.Math.Decide.{dec_le}
use Rattle.std.specs.Float.{nan, inf, fin, binary64}
use Rattle.std.specs.Float.Ieee.{up, down, round, mul, lt, le, neg, fits}
use Rattle.std.specs.Float.Ieee.Digits.{back}
use Rattle.std.specs.Float.Ieee.Fits.{down_pos, round-fits, inf-fits}
use Rattle.std.specs.Float.Ieee.Order.{transfer, le_of_values}
use Rattle.float.specs.Rounded.{◌⊕◌, ◌⊗◌, nought}
use Rattle.float.specs.Laws.Opened.{Plus, plus_round, mul_fin}
use Rattle.float.specs.Laws.Ordered.{Positive, pos_inf, pos_fin, above_plus, minus_plus, not_below, le_trans_all}
use Rattle.float.specs.Laws.Units.{in_units, round_above, grows}
use Rattle.sqrt.specs.Root.{sticky, scaled, sqrt_of}
use Rattle.sqrt.specs.Laws.Floor.{twice_square, below_of_squares}
use Rattle.sqrt.specs.Laws.Nearest.{pow_four}
use Rattle.sqrt.specs.Laws.Theorem.{NearestRoot, sqrt_is_nearest}

-- ---- in plain arithmetic: what has 53 digits and a square below n * 2 ^ -1074 is at most the nearest to the root
module _ (n : ℕ) (y : Float) (root : NearestRoot n y) where
  abbrev R : ℕ
  R = root.r

  abbrev G : ℕ
  G = root.g

  at_most : (x : ℕ) → x * x * 4 ^ G ≤ 4 * (n * 2 ^ 1074) → x < 2 * R + 1
  at_most x h = below_of_squares (x * x) x (2 * R + 1) (le_refl (x * x)) (lt_of_mul-lt-mul_right (4 ^ G) (lt_of_le_of_lt h root.below))

  -- it is a multiple of 2 ^ g, or below 2 ^ 52 * 2 ^ g
  under_root : (m k : ℕ) → m < 2 ^ 53 → m * 2 ^ k * (m * 2 ^ k) < n * 2 ^ 1074 → m * 2 ^ k ≤ R * 2 ^ G
  under_root m k few h = by_cases (dec_le G k)
      (λ l.
      let b = m * 2 ^ (k - G) in
      let parts : m * 2 ^ k ≡ b * 2 ^ G =
      ap (λ (x : ℕ). m * x) (ap (λ (x : ℕ). 2 ^ x) (sym (back k G l)) ∙ pow-add 2 (k - G) G) ∙ sym (mul_assoc m (2 ^ (k - G)) (2 ^ G)) in
      let square : 2 * b * (2 * b) * 4 ^ G ≡ 4 * (m * 2 ^ k * (m * 2 ^ k)) =
      ap (λ (x : ℕ). x * 4 ^ G) (twice_square b) ∙ mul_assoc 4 (b * b) (4 ^ G)
      ∙ ap (λ (x : ℕ). 4 * x) (ap (λ (x : ℕ). b * b * x) (pow_four G) ∙ mul-mul-mul_comm b b (2 ^ G) (2 ^ G) ∙ ap (λ (x : ℕ). x * x) (sym parts)) in
      let two : 2 * b < 2 * R + 1 = at_most (2 * b) (le_trans (le_of_eq square) (mul-le-mul_left 4 (le_of_lt h))) in
      let low : b ≤ R = omega arith in
      le_trans (le_of_eq parts) (mul-le-mul_right (2 ^ G) low))
      (λ l.
      let two : 2 ^ 53 < 2 * R + 1 = at_most (2 ^ 53) root.place_low in
      let low : 2 ^ 52 ≤ R = omega arith in
      le_trans (le_of_lt (lt_of_lt_of_le (shl_lt 53 k few) (pow_mono {i = 53 + k} {j = 52 + G} (omega arith))))
      (le_trans (le_of_eq (pow-add 2 52 G)) (mul-le-mul_right (2 ^ G) low)))

-- ---- in doubles
square_is : (s : Bool) (m : ℕ) (e : ℤ) → fin s m e ⊗ fin s m e ≡ round binary64 false (m * up e * (m * up e)) (down e * down e)
square_is true m e = mul_fin binary64 true m e true m e
square_is false m e = mul_fin binary64 false m e false m e

above_square : (x y : Float) → T (lt (x ⊗ x) y) → Positive y
above_square nan y h = absurd (unfold mul lt in h)
above_square (inf true) y h = above_plus (inf false) y refl (unfold mul in h)
above_square (inf false) y h = above_plus (inf false) y refl (unfold mul in h)
above_square (fin s m e) y h = above_plus (fin s m e ⊗ fin s m e) y (rw (square_is s m e) (plus_round binary64 (m * up e * (m * up e)) (down e * down e))) h

root_plus : {y : Float} → Positive y → Plus (sqrt_of y) × T (fits binary64 (sqrt_of y))
unfolding sqrt_of
root_plus pos_inf = (refl, inf-fits binary64 false)
root_plus (pos_fin n d) = (plus_round binary64 (sticky (scaled (suc n) d)) (2 ^ 593), round-fits binary64 false (sticky (scaled (suc n) d)) (2 ^ 593))

-- both above 0
both :
    (m : ℕ) (e : ℤ) (n : ℕ) (d : ℤ) → T (fits binary64 (fin false (suc m) e)) → T (fits binary64 (fin false (suc n) d)) →
    T (lt (fin false (suc m) e ⊗ fin false (suc m) e) (fin false (suc n) d)) →
    T (le (fin false (suc m) e) (sqrt_of (fin false (suc n) d)))
both m e n d f g h =
    let x = fin false (suc m) e in
    let y = fin false (suc n) d in
    let M = suc m * up e in
    let C = down e in
    let P : 0 < 2 ^ 1074 = pow_pos 1074 in
    let u = in_units m e f in
    let a = suc m * 2 ^ u.power in
    let r = sqrt_is_nearest n d g in
    let square : M * M * (2 ^ 1074 * 2 ^ 1074) ≡ a * a * (C * C) =
    mul-mul-mul_comm M M (2 ^ 1074) (2 ^ 1074) ∙ ap (λ (z : ℕ). z * z) u.is ∙ mul-mul-mul_comm a C a C in
    let less : a * a < r.0 * 2 ^ 1074 = lt_of_not-le (λ (l : r.0 * 2 ^ 1074 ≤ a * a).
    T_not (lt (x ⊗ x) y) (not_below y (x ⊗ x) (rw (square_is false (suc m) e)
    (round_above (suc n) d g (M * M) (C * C) (mul-pos (down_pos e) (down_pos e))
    (transfer (suc n * up d) (M * M) (down d) (C * C) r.0 (a * a) (2 ^ 1074) (2 ^ 1074 * 2 ^ 1074) P (mul-pos P P) r.1.1 square
    (le_trans (le_of_eq (sym (mul_assoc r.0 (2 ^ 1074) (2 ^ 1074)))) (mul-le-mul_right (2 ^ 1074) l)))))) h) in
    le_of_values x (sqrt_of y) a (2 ^ 1074) (r.2.r * 2 ^ r.2.g) (2 ^ 1074) P P (refl, u.is) r.2.value
    (mul-le-mul_right (2 ^ 1074) (under_root r.0 (sqrt_of y) r.2 (suc m) u.power u.few less))

-- a double whose rounded square is below y is at most the root of y
pub below_root : (x y : Float) → T (fits binary64 x) → T (fits binary64 y) → T (lt (x ⊗ x) y) → T (le x (sqrt_of y))
below_root x y f g h = go x (above_square x y h) f g h
  where
    go : (x : Float) {y : Float} → Positive y → T (fits binary64 x) → T (fits binary64 y) → T (lt (x ⊗ x) y) → T (le x (sqrt_of y))
    go nan p f g h = absurd (unfold mul lt in h)
    go (inf true) {y} p f g h = unfold neg in minus_plus (inf false) (sqrt_of y) refl (root_plus p).0
    go (inf false) pos_inf f g h = absurd (unfold mul lt in h)
    go (inf false) (pos_fin n d) f g h = absurd (unfold mul lt in h)
    go (fin true m e) {y} p f g h = unfold neg in minus_plus (fin false m e) (sqrt_of y) refl (root_plus p).0
    go (fin false m e) pos_inf f g h = unfold sqrt_of le in tt
    go (fin false zero e) (pos_fin n d) f g h =
        unfold sqrt_of in round_above zero e f (sticky (scaled (suc n) d)) (2 ^ 593) (pow_pos 593) (simp zero-mul zero-le)
    go (fin false (suc m) e) (pos_fin n d) f g h = both m e n d f g h

-- so it is not above that root with anything added that is not below 0
pub not_above_root : (x y b : Float) → T (fits binary64 x) → T (fits binary64 y) → T (le nought b) → T (lt (x ⊗ x) y) → T (not (lt (sqrt_of y ⊕ b) x))
not_above_root x y b f g l h =
    let p = above_square x y h in
    not_below x (sqrt_of y ⊕ b) (le_trans_all x (sqrt_of y) (sqrt_of y ⊕ b) (below_root x y f g h) (grows (sqrt_of y) b (root_plus p).1 (root_plus p).0 l))
