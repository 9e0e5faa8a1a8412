-- Where a micro-cluster stands in a grid. Definitions only.
use Rattle.std.specs.Prelude.{ℕ, zero, suc, ◌+◌, ◌*◌, min, Bool, ◌||◌, cond, eqb, get_or, set, replicate, Float}
use Rattle.std.specs.Float.{binary64}
use Rattle.std.specs.Float.Ieee.{of_bits, neg, is_nan}
use Rattle.float.specs.Rounded.{◌⊕◌, ◌⊖◌, ◌⊗◌, ◌⊘◌, one, two, whole}
use Rattle.picture_grid.specs.declared.grid.Plot.{Plot}
use Rattle.picture_grid.specs.declared.upward.Upward.{Upward}
use Rattle.picture_grid.specs.declared.upward.Upward.TheVariants.{BeatError, Amplitude}
use Rattle.picture_grid.specs.Figure.{ten, rounded_of}
use Rattle.picture_grid.specs.Upward.{low_of, step_of}
use Rattle.picture_lines.specs.declared.row.Row.{Row}

-- the figure that goes upwards, in tenths
abbrev pub upward_of : Upward → Row → Float
upward_of BeatError row = row.beat_error
upward_of Amplitude row = row.amplitude ⊗ ten

abbrev pub sixty : Float
sixty = of_bits binary64 0x404e_0000_0000_0000

-- the cell of a figure: 1 for low, then one for each step; what lies outside has the frame's, 0 or the last
abbrev pub cell_of : (low step : Float) (last : ℕ) → Float → ℕ
cell_of low step last x = min (rounded_of ((x ⊖ low) ⊘ step ⊕ one)) last

-- lines of 63 from the bottom up, the frame's included; a column is 2 s/d from −60 on
abbrev pub place_of : Upward → Row → ℕ
place_of up row =
    cell_of (whole (low_of up)) (whole (step_of up)) 20 (upward_of up row) * 63 + cell_of (neg sixty) two 62 row.rate

-- a figure that is no number has no place
abbrev pub is_hidden : Upward → Row → Bool
is_hidden up row = is_nan row.rate || is_nan (upward_of up row)

-- a mark covers what stood in the cell; a dot covers nothing but a blank
abbrev pub over_of : (old mark : ℕ) → ℕ
over_of old mark = cond (eqb mark 46) (cond (eqb old 32) mark old) mark

-- a micro-cluster is marked, or counted where it has no place
abbrev pub marked : Upward → Plot → Row → Plot
marked up plot row =
    cond (is_hidden up row) (record { cells = plot.cells; hidden = plot.hidden + 1 })
    (record { cells = set plot.cells (place_of up row) (over_of (get_or plot.cells (place_of up row) 0) row.mark); hidden = plot.hidden })

-- blanks, and the first n in list order
unfoldable pub plot_of : Upward → (ℕ → Row) → ℕ → Plot
plot_of up at zero = record { cells = replicate 1323 32; hidden = 0 }
plot_of up at (suc n) = marked up (plot_of up at n) (at n)
