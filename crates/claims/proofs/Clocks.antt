-- The clock counts the accepted inserts exactly, and so are the times and ages that are read off it, of any stream.
use Prim.Native.Nat.{ℕ, ◌+◌, ◌^◌, ◌≤◌, ◌<◌}
use mathlib.Core.Path.{◌≡◌, refl, sym, ◌∙◌}
use mathlib.Core.Bool.{true}
use native.Mathlib.Omega.{arith}
use lib.Dec.{lit<}
use lib.Ieee.{Float, lt, of_int, of_bits}
use borrow.Author.Tests.{ltb-true}
use Rattle.float.specs.Rounded.{◌⊕◌, nought, one, whole, Exact}
use Rattle.float.specs.Laws.Whole.{exactly, exact_one, exact_sum, exact_difference, lt_is}
use Rattle.model.specs.Limits.{clock_limit, clock_most}
use Rattle.model.specs.Laws.Limits.{limits_agree}
use Rattle.claims.specs.Clock.{Counts, Dated}

-- far below the doubles' gaps
pub small : (n : ℕ) → n ≤ clock_most → n + 1 < 2 ^ 53
small n h = let l : clock_most + 1 < 2 ^ 53 = lit< tt in omega arith

-- a number of ticks up to the limit, as a double
pub at_most : (n : ℕ) → n ≤ clock_most → Exact n (whole n)
at_most n h = exactly n (whole n) refl (omega (arith, small n h))

below_limit : (n : ℕ) (t : Float) → Counts n t → lt t clock_limit ≡ true → n < clock_most
below_limit n t c l = ltb-true n clock_most (sym (lt_is t clock_limit n clock_most c.exact.value limits_agree.clock.value) ∙ l)

-- an accepted insert adds 1 to the clock without rounding
pub one_tick : (n : ℕ) (t : Float) → Counts n t → lt t clock_limit ≡ true → Counts (n + 1) (t ⊕ one)
one_tick n t c l =
    record {
      exact = exact_sum c.exact exact_one (small n c.limit);
      limit = (let b : n < clock_most = below_limit n t c l in omega arith);
    }

-- a fresh stream has counted none
pub starts : Counts 0 nought
unfolding of_int of_bits
starts = record { exact = exactly 0 nought refl (lit< tt); limit = omega arith }

-- the clock at an accepted insert, kept after it
pub dated : (n : ℕ) (t : Float) → Counts n t → Dated (n + 1) t
dated n t c =
    record {
      tick = n;
      before = omega arith;
      at = c.exact;
      age = λ m h l. exact_difference (at_most m l) c.exact (omega arith);
    }

-- and after one insert more
pub dated_later : (n : ℕ) (last : Float) → Dated n last → Dated (n + 1) last
dated_later n last d =
    record {
      tick = d.tick;
      before = (let b : d.tick < n = d.before in omega arith);
      at = d.at;
      age = λ m h l. d.age m (omega arith) l;
    }
