-- What the code of two to the y may do with k, once k is no less than −1022. Assumes nothing.
use Rattle.std.proofs.Common.{◌≡◌, ℕ, ◌+◌, ◌*◌, ◌/◌, ◌^◌, ◌<◌, ◌≤◌, true, false, T, pos, true≢false, mul-le-mul_right, div-lt_iff_lt-mul, arith, lt→ltb}
use lib.Ieee.{Float, nan, inf, fin, up, down, lt, neg, to_unsigned}
use lib.Ieee.Fits.{down_pos}
use Rattle.float.specs.Rounded.{nought, whole, Is}
use Rattle.float.specs.Cut.{cut_of, wholes}
use Rattle.float.specs.TwoTo.{least}
use Rattle.float.specs.Laws.Whole.{whole_is}
use Rattle.float.specs.Laws.Between.{no_less, nan_not_below, plus_not_below, inf_not_least}

-- −k can be turned into a number, which is at most 1022
pub record Small (k : Float) : Type 0 where
  pub over : T (lt (fin true 1 (pos 0)) (neg k))
  pub under : T (lt (neg k) (fin false 1 (pos 64)))
  pub number : to_unsigned 64 (neg k) ≡ wholes k
  pub small : wholes k ≤ 1022

minus_small : (w : Float) (c : ℕ) → Is w c → c ≤ 1022 → Small (neg w)
unfolding lt neg to_unsigned
minus_small nan c p h = absurd p
minus_small (inf s) c p h = absurd p
minus_small (fin true m e) c p h = absurd (true≢false p.0)
minus_small (fin false m e) c p h =
    let i : m * up e * 1 ≡ c * down e = p.1 in
    let l : c * down e ≤ 1022 * down e = mul-le-mul_right (down e) h in
    let d : 0 < down e = down_pos e in
    let s : m * up e / down e < 1023 = (div-lt_iff_lt-mul d).1 (omega arith) in
    record {
      over = lt→ltb 0 (1 * down e + m * up e * 1) (omega arith);
      under = lt→ltb (m * up e * 1) (2 ^ 64 * down e) (omega arith);
      number = omega arith;
      small = omega arith;
    }

-- a cut double that is not below −1022 is small
pub small_cut : (y : Float) → lt y nought ≡ true → lt (cut_of y) least ≡ false → Small (cut_of y)
unfolding cut_of
small_cut nan p q = absurd (nan_not_below p)
small_cut (inf s) p q = absurd (inf_not_least s p q)
small_cut (fin false m e) p q = absurd (plus_not_below m e p)
small_cut (fin true m e) p q =
    let c = m * up e / down e in
    let h : c ≤ 1022 = no_less c q in
    minus_small (whole c) c (whole_is c (omega arith)) h
