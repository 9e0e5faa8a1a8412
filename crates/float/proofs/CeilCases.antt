-- From 2^53 on, to either side, every double is whole already. Assumes nothing.
use Rattle.std.proofs.Common.{◌≡◌, ℕ, suc, ◌+◌, ◌*◌, ◌%◌, ◌^◌, ◌<◌, ◌≤◌, Bool, true, false, cond, not, T, eqb, ℤ, pos, negsuc, sym, refl, ap, subst, arith, nltb→le, pow_pos}
use native.Mathlib.Nat.{mod-one}
use lib.Ieee.{Float, nan, inf, fin, binary64, up, down, lt, neg, fits}
use lib.Ieee.Fits.{down_pos, eq→eqb}
use lib.Ieee.Bits.{is_true}
use Rattle.float.specs.Rounded.{whole}
use Rattle.float.specs.Cut.{wholes}
use Rattle.float.specs.Ceil.{ceil_of}
use Rattle.float.specs.Laws.Binary64.{few}

-- 2^53
abbrev pub big : Float
big = fin false 1 (pos 53)

no : {b : Bool} → b ≡ false → T (not b)
no e = subst (λ (b : Bool). T (not b)) (sym e) tt

big_whole : (s : Bool) (m : ℕ) (e : ℤ) → T (fits binary64 (fin s m e)) → 2 ^ 53 * down e ≤ m * up e * 1 → m * up e % down e ≡ 0
big_whole s m (pos k) f h = mod-one (m * 2 ^ k)
big_whole s m (negsuc k) f h = absurd (
    let l : m < 2 ^ 53 = few s m (negsuc k) f in
    let g : 0 < 2 ^ suc k = pow_pos (suc k) in
    omega arith)

stays_whole : (s : Bool) (m : ℕ) (e : ℤ) → m * up e % down e ≡ 0 → ceil_of (fin s m e) ≡ fin s m e
unfolding ceil_of
stays_whole s m e z =
    ap (λ (t : Bool). cond t (fin s m e) (cond s (neg (whole (wholes (fin s m e)))) (whole (wholes (fin s m e) + 1)))) (is_true (eqb (m * up e % down e) 0) (eq→eqb z))

pub far_up : (x : Float) → T (fits binary64 x) → lt x big ≡ false → ceil_of x ≡ x
unfolding lt ceil_of
far_up nan f p = refl
far_up (inf s) f p = refl
far_up (fin true m e) f p = absurd (let h : m * up e * 1 + 2 ^ 53 * down e ≤ 0 = nltb→le 0 (m * up e * 1 + 2 ^ 53 * down e) (no p) in omega (arith, down_pos e))
far_up (fin false m e) f p = stays_whole false m e (big_whole false m e f (nltb→le (m * up e * 1) (2 ^ 53 * down e) (no p)))

pub far_down : (x : Float) → T (fits binary64 x) → lt (neg big) x ≡ false → ceil_of x ≡ x
unfolding lt ceil_of neg
far_down nan f p = refl
far_down (inf s) f p = refl
far_down (fin false m e) f p =
    absurd (let h : 2 ^ 53 * down e + m * up e * 1 ≤ 0 = nltb→le 0 (2 ^ 53 * down e + m * up e * 1) (no p) in omega (arith, down_pos e))
far_down (fin true m e) f p = stays_whole true m e (big_whole true m e f (nltb→le (m * up e * 1) (2 ^ 53 * down e) (no p)))
