-- A weight that fades is at least 0 and at most what it was; one that fades and gains 1 is from 1 to the number of its gains. Assumes nothing.
use Prim.Native.Nat.{ℕ, zero, suc, ◌*◌, ◌^◌, ◌≤◌}
use mathlib.Core.Path.{◌≡◌, refl, sym, ap, ◌∙◌}
use mathlib.Core.Bool.{Bool, true, false}
use native.Mathlib.Nat.{mul_comm, mul-one, one-mul}
use native.Mathlib.Omega.{arith}
use lib.Dec.{T}
use lib.IntN.{pos}
use lib.Ieee.{Float, nan, inf, fin, Format, binary64, up, down, fits, mul, le, unlike, of_bits}
use lib.Ieee.Fits.{down_pos}
use lib.Ieee.Exact.{HasValue}
use lib.Ieee.Order.{le_of_values}
use Rattle.float.specs.Rounded.{◌⊗◌, nought, one, whole, Is}
use Rattle.float.specs.Laws.Opened.{mul_fin}
use Rattle.float.specs.Laws.Whole.{whole_is, mul_is}
use Rattle.float.specs.Laws.Units.{own_round}
use Rattle.float.specs.Laws.Ordered.{Finite, is_fin, le→parts, le_trans_all, mul_mono, zero_round, zero_le_zero}

-- what lies between finite doubles is finite
pub finite_between : (x w y : Float) → Finite x → Finite y → T (le x w) → T (le w y) → Finite w
unfolding le
finite_between x nan y a b h k = absurd k
finite_between x (inf true) y (is_fin s m e) b h k = absurd h
finite_between x (inf false) y a (is_fin s m e) h k = absurd k
finite_between x (fin s m e) y a b h k = is_fin s m e

unlike_comm : (s t : Bool) → unlike s t ≡ unlike t s
unlike_comm true true = refl
unlike_comm true false = refl
unlike_comm false true = refl
unlike_comm false false = refl

mul_comm_fin : (f : Format) {x y : Float} → Finite x → Finite y → mul f x y ≡ mul f y x
mul_comm_fin f (is_fin s m e) (is_fin t n d) =
    mul_fin f s m e t n d ∙ rw (unlike_comm s t, mul_comm (m * up e) (n * up d), mul_comm (down e) (down d)) (sym (mul_fin f t n d s m e))

-- and so is a whole number that a double holds
pub whole_finite : (n : ℕ) → n ≤ 2 ^ 53 → Finite (whole n)
whole_finite n h = view (whole n) (whole_is n h)
  where
    view : (x : Float) → Is x n → Finite x
    view nan v = absurd v
    view (inf s) v = absurd v
    view (fin s m e) v = is_fin s m e

-- ---- what is at least 0, times what is from 0 to 1
zero_times : (g : Float) → Finite g → T (le nought (nought ⊗ g))
unfolding of_bits
zero_times g (is_fin t n d) =
    let z : 0 * 1 * (n * up d) ≡ 0 = omega arith in
    let rounded = zero_round binary64 (unlike false t) (1 * down d) (omega (arith, down_pos d)) in
    rw (mul_fin binary64 false 0 (pos 0) t n d, z, rounded) (zero_le_zero false (unlike false t))

-- 0 ≤ w × g ≤ n for 0 ≤ w ≤ n and 0 ≤ g ≤ 1
pub faded :
    (w g : Float) (n : ℕ) →
    n ≤ 2 ^ 53 →
    T (le nought w) →
    T (le w (whole n)) →
    T (le nought g) →
    T (le g one) →
    T (le nought (w ⊗ g)) × T (le (w ⊗ g) (whole n))
unfolding of_bits
faded w g n N a b c d =
    let o = is_fin false 0 (pos 0) in
    let i = is_fin false 1 (pos 0) in
    let W = whole_finite n N in
    let fw = finite_between nought w (whole n) o W a b in
    let fg = finite_between nought g one o i c d in
    let low = le_trans_all nought (nought ⊗ g) (w ⊗ g) (zero_times g fg) (mul_mono binary64 o fw fg a c) in
    let n0 : T (le nought (whole n)) = le_trans_all nought w (whole n) a b in
    let up1 = mul_mono binary64 fw W fg b c in
    let up2 : T (le (whole n ⊗ g) (one ⊗ whole n)) = rw (mul_comm_fin binary64 W fg) (mul_mono binary64 fg i W d n0) in
    let e : one ⊗ whole n ≡ whole n = mul_is one (whole n) 1 n (refl, refl) (whole_is n N) ∙ ap whole (one-mul n) in
    (low, le_trans_all (w ⊗ g) (whole n ⊗ g) (whole n) up1 (rw e at up2))

-- ---- a double times 1 is rounded to itself
times_one : (w : Float) → T (fits binary64 w) → Finite w → T (le one w) → T (le (w ⊗ one) w)
unfolding of_bits fits
times_one nan f h a = elim h [ ]
times_one (inf s) f h a = elim h [ ]
times_one (fin true m e) f (is_fin s n d) a = absurd (let h = le→parts false 1 (pos 0) true m e a in omega (arith, down_pos e))
times_one (fin false zero e) f (is_fin s n d) a = absurd (let h = le→parts false 1 (pos 0) false 0 e a in omega (arith, down_pos e))
times_one (fin false (suc m) e) f (is_fin s n d) a =
    let v : HasValue (fin false (suc m) e ⊗ one) false (suc m * up e) (down e) =
    rw (mul_fin binary64 false (suc m) e false 1 (pos 0), mul-one (suc m * up e), mul-one (down e)) (own_round (suc m) e f) in
    le_of_values (fin false (suc m) e ⊗ one) (fin false (suc m) e) (suc m * up e) (down e) (suc m * up e) (down e) (down_pos e) (down_pos e)
    v (refl, refl) (omega arith)

-- w × g ≤ w for 1 ≤ w and 0 ≤ g ≤ 1
pub at_most_stored :
    (w g : Float) → T (fits binary64 w) → Finite w → T (le one w) → T (le nought g) → T (le g one) → T (le (w ⊗ g) w)
unfolding of_bits
at_most_stored w g f F a c d =
    let o = is_fin false 0 (pos 0) in
    let i = is_fin false 1 (pos 0) in
    let fg = finite_between nought g one o i c d in
    let z : T (le nought one) = unfold le in tt in
    let less : T (le (g ⊗ w) (one ⊗ w)) = mul_mono binary64 fg i F d (le_trans_all nought one w z a) in
    le_trans_all (w ⊗ g) (w ⊗ one) w (rw (mul_comm_fin binary64 F fg, mul_comm_fin binary64 F i) less) (times_one w f F a)
