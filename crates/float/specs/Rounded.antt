-- Document 01: "Arithmetic is binary64, each operation rounded once, in the order the Rust writes it." Definitions only.
use Rattle.std.specs.Prelude.{◌≡◌, ℕ, ◌^◌, ◌<◌, false, pos, from_bits, Float}
use Rattle.std.specs.Float.{binary64}
use Rattle.std.specs.Float.Ieee.{add, sub, mul, div, of_int}
use Rattle.std.specs.Float.Ieee.Exact.{HasValue}

infixl 60 ◌⊕◌
infixl 60 ◌⊖◌
infixl 70 ◌⊗◌
infixl 70 ◌⊘◌
-- x + y, rounded once; so the other three
abbrev pub ◌⊕◌ : Float → Float → Float
x ⊕ y = add binary64 x y

-- x − y
abbrev pub ◌⊖◌ : Float → Float → Float
x ⊖ y = sub binary64 x y

-- x × y
abbrev pub ◌⊗◌ : Float → Float → Float
x ⊗ y = mul binary64 x y

-- x / y
abbrev pub ◌⊘◌ : Float → Float → Float
x ⊘ y = div binary64 x y

-- 0, by the bits that the code's literal has
abbrev pub nought : Float
nought = from_bits binary64 0

-- 1, by its bits
abbrev pub one : Float
one = from_bits binary64 0x3ff0_0000_0000_0000

-- 2, by its bits
abbrev pub two : Float
two = from_bits binary64 0x4000_0000_0000_0000

-- the number n as a double
abbrev pub whole : ℕ → Float
whole n = of_int binary64 (pos n)

-- x is n: its sign is plus, and its size is n
abbrev pub Is : Float → ℕ → Type 0
Is x n = HasValue x false n 1

-- Document 02, item 5: "Times and sizes are whole doubles below 2^53, which must still be shown exact."
pub record Exact (n : ℕ) (x : Float) : Type 0 where
  pub same : x ≡ whole n
  pub value : Is x n
  pub below : n < 2 ^ 53
