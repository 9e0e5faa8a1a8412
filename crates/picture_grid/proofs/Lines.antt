-- The figures of a grid's lines. Assumes nothing.
use Rattle.std.proofs.Common.{◌≡◌, ℕ, ◌+◌, ◌*◌, ◌^◌, ◌<◌, arith}
use Rattle.picture_grid.specs.declared.upward.Upward.{Upward}
use Rattle.picture_grid.specs.declared.upward.Upward.TheVariants.{BeatError, Amplitude}
use Rattle.picture_grid.specs.Upward.{low_of, step_of}

-- the lines' figures are small
pub lines_fit :
    (up : Upward) (row low step : ℕ) → row < 19 → low ≡ low_of up → step ≡ step_of up → (row * step < 2 ^ 64) × (low + row * step < 2 ^ 64)
lines_fit up row low step h l s = rw (l, s) (go up)
  where
    go : (up : Upward) → (row * step_of up < 2 ^ 64) × (low_of up + row * step_of up < 2 ^ 64)
    go BeatError = (omega arith, omega arith)
    go Amplitude = (omega arith, omega arith)
