-- One stored weight or link value, through an insert.
use Prim.Native.Nat.{ℕ, ◌+◌, ◌^◌, ◌≤◌}
use mathlib.Core.Path.{sym, subst}
use mathlib.Core.Bool.{false}
use native.Mathlib.Omega.{arith}
use lib.Dec.{T, le→leb}
use lib.IntN.{pos}
use lib.Ieee.{Float, binary64, add, le, of_int, of_bits}
use lib.Ieee.Fits.{add-fits}
use Rattle.float.specs.Rounded.{◌⊕◌, nought, one, whole, Exact}
use Rattle.float.specs.Laws.Whole.{whole_is, le_is, exact_one, exact_sum}
use Rattle.float.specs.Laws.Ordered.{Finite, is_fin, le_trans_all, add_mono}
use Rattle.feature.specs.Fade.{fade_of, Share}
use Rattle.feature.specs.Laws.Fade.{fade_is_share}
use Rattle.model.specs.Limits.{clock_most}
use Rattle.model.specs.Fading.{faded_to}
use Rattle.claims.specs.Clock.{Counts}
use Rattle.claims.specs.Weighed.{Weighed}
use Rattle.claims.proofs.Clocks.{small, at_most, dated, dated_later}
use Rattle.claims.proofs.Weight.{finite_between, whole_finite, faded, at_most_stored}

whole_le : (n k : ℕ) → n ≤ k → k ≤ 2 ^ 53 → T (le (whole n) (whole k))
whole_le n k h l = subst T (sym (le_is (whole n) (whole k) n k (whole_is n (omega arith)) (whole_is k l))) (le→leb n k h)

-- a weight that nothing joins stays in its bounds
pub later : (n : ℕ) (w last : Float) → n ≤ clock_most → Weighed n w last → Weighed (n + 1) w last
later n w last h g =
    record {
      least = g.least;
      most = le_trans_all w (whole n) (whole (n + 1)) g.most (whole_le n (n + 1) (omega arith) (omega (arith, small n h)));
      when = dated_later n last g.when;
      faded = g.faded;
    }

-- what is from 0 to n, and gains 1 at the tick n
pub gains_one : (n : ℕ) (v t : Float) → Counts n t → T (le nought v) → T (le v (whole n)) → Weighed (n + 1) (v ⊕ one) t
unfolding of_bits
gains_one n v t c a b =
    let N : n ≤ 2 ^ 53 = omega (arith, small n c.limit) in
    let o = is_fin false 0 (pos 0) in
    let i = is_fin false 1 (pos 0) in
    let f : Finite v = finite_between nought v (whole n) o (whole_finite n N) a b in
    let same : T (le one one) = unfold le in tt in
    let grown : Exact (n + 1) (whole n ⊕ one) = exact_sum (at_most n c.limit) exact_one (small n c.limit) in
    let z : T (le one (nought ⊕ one)) = unfold add le in tt in
    let y : T (le nought one) = unfold le in tt in
    let low : T (le one (v ⊕ one)) = le_trans_all one (nought ⊕ one) (v ⊕ one) z (add_mono binary64 o f i i a same) in
    let high : T (le (v ⊕ one) (whole (n + 1))) = subst (λ (k : Float). T (le (v ⊕ one) k)) grown.same (add_mono binary64 f (whole_finite n N) i i b same) in
    let M : n + 1 ≤ 2 ^ 53 = omega (arith, small n c.limit) in
    let F : Finite (v ⊕ one) = finite_between one (v ⊕ one) (whole (n + 1)) i (whole_finite (n + 1) M) low high in
    record {
      least = low;
      most = high;
      when = dated n t c;
      faded = λ lambda u.
          let s : Share (fade_of lambda u t) = fade_is_share lambda u t in (
            (faded (v ⊕ one) (fade_of lambda u t) (n + 1) M (le_trans_all nought one (v ⊕ one) y low) high s.least s.most).0,
            at_most_stored (v ⊕ one) (fade_of lambda u t) (add-fits binary64 v one) F low s.least s.most,
          );
    }

-- a weight that fades and gains 1
pub regains : (n : ℕ) (w last lambda t : Float) → Counts n t → T (le nought w) → T (le w (whole n)) → Weighed (n + 1) (faded_to lambda t w last ⊕ one) t
regains n w last lambda t c a b =
    let s : Share (fade_of lambda t last) = fade_is_share lambda t last in
    let f = faded w (fade_of lambda t last) n (omega (arith, small n c.limit)) a b s.least s.most in
    gains_one n (faded_to lambda t w last) t c f.0 f.1

-- what is at least 1 is at least 0
pub above_0 : (w : Float) → T (le one w) → T (le nought w)
unfolding of_bits
above_0 w h = let z : T (le nought one) = unfold le in tt in le_trans_all nought one w z h

-- 0 is at most any count
pub zero_most : (n : ℕ) → n ≤ clock_most → T (le nought (whole n))
unfolding of_bits of_int
zero_most n h = whole_le 0 n (omega arith) (omega (arith, small n h))

-- and at least itself
pub zero_least : T (le nought nought)
unfolding of_bits le
zero_least = tt
