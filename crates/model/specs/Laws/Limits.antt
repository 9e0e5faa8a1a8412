-- Document 02, item 5: the clock and the drift window have one limit. Assumes nothing.
use Rattle.std.specs.Prelude.{◌≡◌, refl}
use Rattle.std.proofs.Common.{lit<}
use Rattle.std.specs.Float.Ieee.{of_int, of_bits}
use Rattle.float.specs.Rounded.{Exact}
use Rattle.float.specs.Laws.Whole.{exactly}
use Rattle.adwin.specs.Settings.{limit}
use Rattle.model.specs.Limits.{clock_most, clock_limit}

-- the window takes as many values as the clock has ticks, and the double that the clock is held to is that number
pub record LimitsAgree : Type 0 where
  pub window : limit ≡ clock_most
  pub clock : Exact clock_most clock_limit

-- the limits are one
pub limits_agree : LimitsAgree
unfolding of_int of_bits
limits_agree = record { window = refl; clock = exactly clock_most clock_limit refl (lit< tt) }
