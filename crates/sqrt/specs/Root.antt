-- The square root of binary64 over the values of `lib.Ieee`. Definitions only: `Laws/Theorem.antt` has what they mean in plain arithmetic.
use Rattle.std.specs.Prelude.{ℕ, zero, suc, ◌+◌, ◌*◌, ◌/◌, ◌^◌, ◌<◌, ◌≤◌, true, false, cond, ℤ, ◌==◌, nat_le, Float}
use Rattle.std.specs.Float.{nan, inf, fin, binary64}
use Rattle.std.specs.Float.Ieee.{up, down, size, round}

-- q is the whole part of n's root
abbrev pub IsRoot : ℕ → ℕ → Type 0
IsRoot n q = (q * q ≤ n) × (n < suc q * suc q)

-- r, or the next number up where its square is still at most n
abbrev pub grow : ℕ → ℕ → ℕ
grow n r = cond (nat_le (suc r * suc r) n) (suc r) r

-- the whole part of the root of an n below 4 ^ d, digit by digit: twice that of n / 4, or one more
unfoldable pub root : ℕ → ℕ → ℕ
root zero n = 0
root (suc d) n = grow n (2 * root d (n / 4))

-- the whole part of n's root
unfoldable pub floor_root : ℕ → ℕ
unfolding root
floor_root n = root (size n) n

-- twice the whole part of n's root, and one more where n is no square
unfoldable pub sticky : ℕ → ℕ
unfolding floor_root
sticky n = let q = floor_root n in 2 * q + cond (q * q == n) 0 1

-- m * 2 ^ e in units of 2 ^ -1184, a whole number for every number of binary64
abbrev pub scaled : ℕ → ℤ → ℕ
scaled m e = m * up e * 2 ^ 1184 / down e

-- "Square root: IEEE 754, nearest, ties to even; −0 stays −0; below zero gives NaN."
-- The root of a positive number, in units of 2 ^ -592, is the root of the number in units of 2 ^ -1184. It is cut to a whole number with one more binary digit,
-- which is 1 where something was cut off. Each number that can be the result, and each middle between two of them, is a multiple of 2 ^ -590, so what is
-- handed to `round` is on the same side of each as the root itself, and is rounded as the root itself.
unfoldable pub sqrt_of : Float → Float
unfolding sticky round
sqrt_of nan = nan
sqrt_of (inf s) = cond s nan (inf false)
sqrt_of (fin s zero e) = fin s zero e
sqrt_of (fin true (suc m) e) = nan
sqrt_of (fin false (suc m) e) = round binary64 false (sticky (scaled (suc m) e)) (2 ^ 593)
