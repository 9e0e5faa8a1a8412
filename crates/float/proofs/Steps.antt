-- One turn of the loop of two to the y.
use Rattle.std.proofs.Common.{◌≡◌, ℕ, zero, suc, ◌+◌, ◌-◌, ◌*◌, ◌<◌, pos, ap, arith}
use lib.Ieee.{Float, binary64, add, mul, div, of_int}
use Rattle.float.specs.Ln.{series}
use Rattle.float.specs.TwoTo.{step, steps}
use Rattle.float.specs.Rounded.{one}

-- one step of the series
pub steps_next : (z h : Float) (n : ℕ) → 0 < n → steps z (n - 1) (step z n h) ≡ steps z n h
unfolding steps
steps_next z h zero p = absurd (omega arith)
steps_next z h (suc n) p = let e : suc n - 1 ≡ n = omega arith in ap (λ (k : ℕ). steps z k (step z (suc n) h)) e

-- One turn of the loop of ln, which counts down first.
pub series_next :
    (q h : Float) (n : ℕ) → 0 < n →
    series q (n - 1) (add binary64 (mul binary64 h q) (div binary64 one (of_int binary64 (pos (2 * (n - 1) + 1))))) ≡ series q n h
unfolding series
series_next q h zero p = absurd (omega arith)
series_next q h (suc n) p =
    let e : suc n - 1 ≡ n = omega arith in ap (λ (k : ℕ). series q k (add binary64 (mul binary64 h q) (div binary64 one (of_int binary64 (pos (2 * k + 1)))))) e
