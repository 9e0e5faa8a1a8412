-- Examples of `cut_of` with the biased exponents that tell their cases, by computation. Assumes nothing.
use Rattle.std.specs.Prelude.{◌≡◌, ℕ, ◌+◌, ◌-◌, ◌^◌, true, refl, Float}
use Rattle.std.specs.Float.{inf, binary64}
use Rattle.std.specs.Float.Ieee.{neg, of_int, of_bits, to_bits, round}
use Rattle.float.specs.Rounded.{nought, whole}
use Rattle.float.specs.Binary64.{bias, digits, biased}
use Rattle.float.specs.Cut.{cut_of}

-- the double with these bits has the biased exponent b, and is cut to k
abbrev Cut : ℕ → ℕ → Float → Type 0
Cut bits b k = (biased (neg (of_bits binary64 bits)) ≡ b) × (cut_of (of_bits binary64 bits) ≡ k)

-- Below 0: −2^−1074, the subnormal of the smallest size, and −0.5. From 0 to 51: −1, −1.5, −3 and −(2^51 + 0.5). 52 and above: −2^52 and −infinity.
pub examples :
    Cut 0x8000_0000_0000_0001 0 (neg nought)
    × Cut 0xbfe0_0000_0000_0000 (bias - 1) (neg nought)
    × Cut 0xbff0_0000_0000_0000 bias (neg (whole 1))
    × Cut 0xbff8_0000_0000_0000 bias (neg (whole 1))
    × Cut 0xc008_0000_0000_0000 (1 + bias) (neg (whole 3))
    × Cut 0xc320_0000_0000_0001 (51 + bias) (neg (whole (2 ^ 51)))
    × Cut 0xc330_0000_0000_0000 (digits + bias) (neg (whole (2 ^ 52)))
    × Cut 0xfff0_0000_0000_0000 (1024 + bias) (inf true)
unfolding cut_of neg of_bits to_bits of_int round
examples = ((refl, refl), (refl, refl), (refl, refl), (refl, refl), (refl, refl), (refl, refl), (refl, refl), (refl, refl))
