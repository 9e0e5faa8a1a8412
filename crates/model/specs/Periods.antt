-- Document 01: the periods of DBSTREAM's cleanup and of DenStream's pruning. Definitions only.
use Rattle.std.specs.Prelude.{ℕ, ◌<◌, ◌≤◌, Float}
use Rattle.std.specs.Float.Ieee.{neg}
use Rattle.float.specs.Rounded.{◌⊖◌, ◌⊗◌, ◌⊘◌, one, Is}
use Rattle.float.specs.Order.{larger}
use Rattle.float.specs.Ceil.{ceil_of}
use Rattle.float.specs.Ln.{log2_of}
use Rattle.float.specs.TwoTo.{two_to}

-- "t_gap = max(1, ceil(1/lambda))"
abbrev pub t_gap_of : (lambda : Float) → Float
t_gap_of lambda = larger one (ceil_of (one ⊘ lambda))

-- "floor = 2^(−lambda × t_gap)"
abbrev pub floor_of : (lambda : Float) → Float
floor_of lambda = two_to (neg lambda ⊗ t_gap_of lambda)

-- "bm = beta×mu"
abbrev pub bm_of : (beta mu : Float) → Float
bm_of beta mu = beta ⊗ mu

-- "tp = max(1, ceil((1/lambda) × log2(bm/(bm−1))))"
abbrev pub tp_of : (lambda bm : Float) → Float
tp_of lambda bm = larger one (ceil_of (one ⊘ lambda ⊗ log2_of (bm ⊘ (bm ⊖ one))))

-- x is a whole number from 1 to b
pub record Period (b : ℕ) (x : Float) : Type 0 where
  pub ticks : ℕ
  pub some : 0 < ticks
  pub most : ticks ≤ b
  pub is : Is x ticks
