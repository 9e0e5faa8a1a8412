use Rattle.std.proofs.Common.{◌≡◌, ◌≤◌}
use Rattle.picture_lines.specs.Row.{row_in}
use Rattle.picture_lines.specs.Plot.{plot_of}
use Rattle.picture_lines.proofs.plot.plotted.Given as goal

abbrev pub invariant-loop-row : goal.invariant-loop-row
invariant-loop-row l = record {
  hidden : l.plot.hidden ≤ l.row-index;
  is : l.plot ≡ plot_of l.up (row_in l.rows) l.row-index;
}
