-- The rounded root of m * 2 ^ k smallest values, from the 54 leading digits of the root. Assumes nothing.
use Rattle.std.specs.Prelude.{◌≡◌, ℕ, zero, suc, ◌+◌, ◌-◌, ◌*◌, ◌/◌, ◌%◌, ◌^◌, ◌<◌, ◌≤◌, false, not, T, ◌≢◌, from_bits, refl, Float}
use Rattle.std.proofs.Common.{sym, ap, ◌∙◌, subst, mul_assoc, pow-suc, arith, pow-add, pow_pos}
use Rattle.std.proofs.Math.Nat.{mul-mul-mul_comm}
use Rattle.std.specs.Float.{nan, inf, fin, binary64}
use Rattle.std.specs.Float.Ieee.{units, round, fits, is_nan, nan_bits}
use Rattle.std.specs.Float.Ieee.Fits.{round-fits}
use Rattle.std.specs.Float.Ieee.Bits.{nan_bits_is}
use Rattle.std.specs.Float.Ieee.Exact.{HasValue}
use Rattle.sqrt.specs.Root.{sticky}
use Rattle.sqrt.specs.Laws.Floor.{odd_square, sticky_is}
use Rattle.sqrt.specs.Inside.Digits.{Rooted}
use Rattle.sqrt.specs.Laws.Rounding.{Step, step_of, rounds_to, units_value, bits_are}

-- 4^j as a square
pub pow_four : (j : ℕ) → 4 ^ j ≡ 2 ^ j * 2 ^ j
pow_four zero = refl
pow_four (suc j) = rw (pow-suc 4 j, pow-suc 2 j, pow_four j) (sym (mul-mul-mul_comm (2 ^ j) 2 (2 ^ j) 2))

-- 2 ^ k is 4 ^ (k / 2), twice for an odd k
pow_half : (k : ℕ) → 2 ^ k ≡ (1 + k % 2) * 4 ^ (k / 2)
pow_half k =
    ap (λ (x : ℕ). 2 ^ x) (parts k)
    ∙ pow-add 2 (k % 2) (k / 2 + k / 2)
    ∙ ap (λ (x : ℕ). 2 ^ (k % 2) * x) (pow-add 2 (k / 2) (k / 2) ∙ sym (pow_four (k / 2)))
    ∙ ap (λ (x : ℕ). x * 4 ^ (k / 2)) (bit (k % 2) (small k))
  where
    parts : (k : ℕ) → k ≡ k % 2 + (k / 2 + k / 2)
    parts k = omega arith

    small : (k : ℕ) → k % 2 < 2
    small k = omega arith

    none : (b : ℕ) → suc (suc b) < 2 → ⊥
    none b h = omega arith

    bit : (b : ℕ) → b < 2 → 2 ^ b ≡ 1 + b
    bit zero h = refl
    bit (suc zero) h = refl
    bit (suc (suc b)) h = absurd (none b h)

no_nan : (v : Float) (n : ℕ) → HasValue v false n (2 ^ 1074) → T (not (is_nan v))
unfolding is_nan
no_nan nan n h = absurd h
no_nan (inf s) n h = tt
no_nan (fin s x e) n h = tt

module _ (m k q i : ℕ) (low_k : k ≤ 2097) (d : Rooted (m * (1 + k % 2)) q i) where
  -- the power of two that takes the 54 digits' number to the scale of `sqrt_of`
  abbrev pub c : ℕ
  c = k / 2 + 82 - i

  -- the number that q is the root of
  abbrev pub a : ℕ
  a = m * (1 + k % 2) * 4 ^ (i - 27)

  -- x in units is a times a square of a power of two
  pub scale : m * 2 ^ k * 2 ^ 110 ≡ a * (2 ^ c * 2 ^ c)
  scale =
      ap (λ (x : ℕ). m * x * 2 ^ 110) (pow_half k)
      ∙ ap (λ (x : ℕ). x * 2 ^ 110) (sym (mul_assoc m (1 + k % 2) (4 ^ (k / 2))))
      ∙ mul_assoc (m * (1 + k % 2)) (4 ^ (k / 2)) (4 ^ 55)
      ∙ ap (λ (x : ℕ). m * (1 + k % 2) * x) (sym (pow-add 4 (k / 2) 55) ∙ ap (λ (x : ℕ). 4 ^ x) rounds ∙ pow-add 4 (i - 27) c)
      ∙ sym (mul_assoc (m * (1 + k % 2)) (4 ^ (i - 27)) (4 ^ c))
      ∙ ap (λ (x : ℕ). a * x) (pow_four c)
    where
      rounds : k / 2 + 55 ≡ i - 27 + c
      rounds = omega (arith, d.least, d.most)

  step : Step a (2 ^ c) q (sticky (m * 2 ^ k * 2 ^ 110))
  step = step_of (m * 2 ^ k * 2 ^ 110) a (2 ^ c) q (sticky (m * 2 ^ k * 2 ^ 110)) (pow_pos c) scale d.is_root (sticky_is (m * 2 ^ k * 2 ^ 110))

  -- a is even, so it is no odd number's square: there are no ties
  pub no_tie : q * q ≡ a → q % 2 ≡ 0
  no_tie e = go (q % 2) refl
    where
      fours : a ≡ m * (1 + k % 2) * 4 ^ (i - 28) * 4
      fours = ap (λ (x : ℕ). m * (1 + k % 2) * x) (ap (λ (x : ℕ). 4 ^ x) less ∙ pow-suc 4 (i - 28)) ∙ sym (mul_assoc (m * (1 + k % 2)) (4 ^ (i - 28)) 4)
        where
          less : i - 27 ≡ suc (i - 28)
          less = omega (arith, d.least)

      go : (r : ℕ) → q % 2 ≡ r → q % 2 ≡ 0
      go zero o = o
      go (suc r) o =
          let whole : q ≡ suc (2 * (q / 2)) = omega arith in
          let same : q * q ≡ suc (2 * (q / 2)) * suc (2 * (q / 2)) = ap (λ (x : ℕ). x * x) whole in
          absurd (no (q * q) (q / 2 * (q / 2)) (q / 2) (m * (1 + k % 2) * 4 ^ (i - 28)) (same ∙ odd_square (q / 2)) (e ∙ fours))
        where
          no : (s x y z : ℕ) → s ≡ 4 * x + 4 * y + 1 → s ≢ z * 4
          no s x y z g h = omega arith

  -- what the code's last line has
  abbrev pub field : ℕ
  field = 565 + k / 2 - i

  -- the exponent's field, from the power of two
  pub field_is : c + 483 ≡ field
  field_is = omega (arith, d.least, d.most)

  -- rounding the sticky root gives the 53 digits
  pub rounded_is : round binary64 false (sticky (m * 2 ^ k * 2 ^ 110)) (2 ^ 593) ≡ units binary64 false ((q + 1) / 2) field
  rounded_is = rounds_to a c q (sticky (m * 2 ^ k * 2 ^ 110)) step no_tie d.low d.high ∙ ap (units binary64 false ((q + 1) / 2)) field_is

  -- their bits
  pub rounded_bits : from_bits binary64 (field * 2 ^ 52 + (q + 1) / 2) ≡ round binary64 false (sticky (m * 2 ^ k * 2 ^ 110)) (2 ^ 593)
  rounded_bits =
      bits_are ((q + 1) / 2) field (omega (arith, d.low)) (omega (arith, d.high)) (omega (arith, d.least))
      (subst (λ (v : Float). T (fits binary64 v)) rounded_is (round-fits binary64 false (sticky (m * 2 ^ k * 2 ^ 110)) (2 ^ 593)))
      ∙ sym rounded_is

  -- their value
  pub rounded_value : HasValue (units binary64 false ((q + 1) / 2) field) false ((q + 1) / 2 * 2 ^ field) (2 ^ 1074)
  rounded_value = units_value ((q + 1) / 2) field (omega (arith, d.high)) (omega (arith, d.least))

  -- they are no NaN
  pub rounded_no_nan : T (not (nan_bits binary64 (field * 2 ^ 52 + (q + 1) / 2)))
  rounded_no_nan =
      rw (nan_bits_is binary64 (field * 2 ^ 52 + (q + 1) / 2), rounded_bits, rounded_is)
      (no_nan (units binary64 false ((q + 1) / 2) field) ((q + 1) / 2 * 2 ^ field) rounded_value)
