-- Micro-clusters marked one after another. Assumes nothing.
use Prim.Native.Nat.{ℕ, ◌+◌}
use mathlib.Core.Path.{◌≡◌, sym, ap, ap₂, ◌∙◌}
use native.Mathlib.Numerals.{add-one}
use Rattle.picture_grid.specs.declared.grid.Plot.{Plot}
use Rattle.picture_lines.specs.declared.row.Row.{Row}
use Rattle.picture_grid.specs.declared.upward.Upward.{Upward}
use Rattle.picture_lines.specs.Plot.{marked, plot_of}

-- one more
pub mark_more :
    (up : Upward) (at : ℕ → Row) (i : ℕ) (plot next : Plot) (row : Row) →
    plot ≡ plot_of up at i →
    row ≡ at i →
    next ≡ marked up plot row →
    next ≡ plot_of up at (i + 1)
unfolding plot_of
mark_more up at i plot next row e r m = m ∙ ap₂ (marked up) e r ∙ ap (plot_of up at) (sym (add-one i))
