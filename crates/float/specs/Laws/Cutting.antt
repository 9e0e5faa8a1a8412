-- Which doubles `truncating_f64_to_u64` takes: those above −1 and below 2^64. Assumes nothing.
use Rattle.std.specs.Prelude.{◌≡◌, ℕ, ◌+◌, ◌*◌, ◌^◌, ◌≤◌, true, false, T, pos, Float}
use Rattle.std.proofs.Common.{sym, true≢false, arith, mul-le-mul_right, ltb-true, lt→ltb}
use Rattle.std.specs.Float.{nan, inf, fin}
use Rattle.std.specs.Float.Ieee.{up, down, lt, of_bits}
use Rattle.std.specs.Float.Ieee.Fits.{down_pos}
use Rattle.float.specs.Rounded.{nought}

above : (x : Float) → lt nought x ≡ true → T (lt (fin true 1 (pos 0)) x)
unfolding lt of_bits
above nan h = absurd (true≢false (sym h))
above (inf true) h = absurd (true≢false (sym h))
above (inf false) h = tt
above (fin true m e) h = absurd (true≢false (sym h))
above (fin false m e) h = lt→ltb 0 (1 * down e + m * up e * 1) (omega (arith, down_pos e))

below : (x : Float) (n k : ℕ) → n * 2 ^ k ≤ 2 ^ 64 → lt x (fin false n (pos k)) ≡ true → T (lt x (fin false 1 (pos 64)))
unfolding lt
below nan n k b h = absurd (true≢false (sym h))
below (inf true) n k b h = tt
below (inf false) n k b h = absurd (true≢false (sym h))
below (fin true m e) n k b h = lt→ltb 0 (m * up e * 1 + 1 * 2 ^ 64 * down e) (omega (arith, down_pos e))
below (fin false m e) n k b h =
    let u = ltb-true (m * up e * 1) (n * 2 ^ k * down e) h in
    let t = mul-le-mul_right (down e) b in
    lt→ltb (m * up e * 1) (1 * 2 ^ 64 * down e) (omega arith)

-- above 0 and below a whole number that is at most 2^64
pub can_cut :
    (x : Float) (n k : ℕ) →
    n * 2 ^ k ≤ 2 ^ 64 →
    lt nought x ≡ true →
    lt x (fin false n (pos k)) ≡ true →
    T (lt (fin true 1 (pos 0)) x) × T (lt x (fin false 1 (pos 64)))
can_cut x n k b o u = (above x o, below x n k b u)
