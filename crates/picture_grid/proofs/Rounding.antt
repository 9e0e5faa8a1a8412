-- A double cut to a whole number of at most 99,999. Assumes nothing.
use Rattle.std.specs.Prelude.{◌≡◌, ℕ, ◌-◌, ◌*◌, ◌/◌, ◌^◌, ◌<◌, ◌≤◌, Bool, true, false, cond, min, refl, Float}
use Rattle.std.proofs.Common.{div-lt_iff_lt-mul, le-div_iff_mul-le, arith, ltb-false}
use Rattle.std.specs.Float.{nan, inf, fin}
use Rattle.std.specs.Float.Ieee.{up, down, of_bits, lt, to_unsigned}
use Rattle.std.specs.Float.Ieee.Fits.{down_pos}
use Rattle.float.specs.Rounded.{nought}
use Rattle.picture_grid.specs.Figure.{limit}
use Rattle.picture_grid.specs.Laws.Sizes.{cut_below}

pub capped : (x : Float) → min (to_unsigned 64 x) 99999 ≡ cond (lt nought x) (cond (lt x limit) (to_unsigned 64 x) 99999) 0
unfolding lt of_bits to_unsigned
capped nan = refl
capped (inf true) = refl
capped (inf false) = refl
capped (fin true m e) = refl
capped (fin false m e) = go (lt nought (fin false m e)) (lt (fin false m e) limit) refl refl
  where
    n : ℕ
    n = min (m * up e / down e) (2 ^ 64 - 1)

    go : (a b : Bool) → lt nought (fin false m e) ≡ a → lt (fin false m e) limit ≡ b → min n 99999 ≡ cond a (cond b n 99999) 0
    go true true p q = let h = cut_below (fin false m e) q in omega arith
    go true false p q =
        let u = ltb-false (m * up e * 1) (3125 * 2 ^ 5 * down e) q in
        let r : 100000 * down e ≤ m * up e = omega arith in
        let h : 100000 ≤ m * up e / down e = (le-div_iff_mul-le (down_pos e)).1 r in
        omega arith
    go false b p q =
        let u = ltb-false (0 * 1 * down e) (m * up e * 1) p in
        let r : m * up e < 1 * down e = omega (arith, down_pos e) in
        let h : m * up e / down e < 1 = (div-lt_iff_lt-mul (down_pos e)).1 r in
        omega arith
