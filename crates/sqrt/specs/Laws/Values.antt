-- `sqrt_of` by the value of its argument. Assumes nothing.
use Rattle.std.specs.Prelude.{◌≡◌, ℕ, zero, suc, ◌*◌, ◌/◌, ◌^◌, ◌<◌, true, false, Float}
use Rattle.std.proofs.Common.{sym, ap, ◌∙◌, subst, zero-mul, mul-pos, mul_assoc, mul_right_comm, mul-div_cancel, lt_irrefl, true≢false}
use Rattle.std.specs.Float.{nan, inf, fin, binary64}
use Rattle.std.specs.Float.Ieee.{up, down, round}
use Rattle.std.specs.Float.Ieee.Fits.{down_pos}
use Rattle.std.specs.Float.Ieee.Exact.{HasValue}
use Rattle.sqrt.specs.Root.{sticky, sqrt_of}

-- the root of n * 2 ^ -1074
pub sqrt_of_value : (x : Float) (n : ℕ) → HasValue x false n (2 ^ 1074) → 0 < n → sqrt_of x ≡ round binary64 false (sticky (n * 2 ^ 110)) (2 ^ 593)
unfolding sqrt_of
sqrt_of_value nan n h p = absurd h
sqrt_of_value (inf s) n h p = absurd h
sqrt_of_value (fin true m e) n h p = absurd (true≢false h.0)
sqrt_of_value (fin false zero e) n h p =
    absurd (lt_irrefl 0 (subst (λ (x : ℕ). 0 < x) (sym h.1 ∙ ap (λ (x : ℕ). x * 2 ^ 1074) (zero-mul (up e)) ∙ zero-mul (2 ^ 1074)) (mul-pos p (down_pos e))))
sqrt_of_value (fin false (suc m) e) n h p =
    ap (λ (x : ℕ). round binary64 false (sticky x) (2 ^ 593))
    (ap (λ (x : ℕ). x / down e) (sym (mul_assoc (suc m * up e) (2 ^ 1074) (2 ^ 110)) ∙ ap (λ (x : ℕ). x * 2 ^ 110) h.1
    ∙ mul_right_comm n (down e) (2 ^ 110)) ∙ mul-div_cancel (n * 2 ^ 110) (down_pos e))
