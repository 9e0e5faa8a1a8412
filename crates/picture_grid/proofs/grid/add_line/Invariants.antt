use Rattle.std.proofs.Common.{length}
use Rattle.text.specs.Text.{Added, each}
use Rattle.picture_grid.specs.Grid.{cell_text}
use Rattle.picture_grid.proofs.grid.add_line.Given as goal

abbrev pub invariant-loop-frame : goal.invariant-loop-frame
invariant-loop-frame l = Added l.initial.text (each (cell_text l.fn.frame l.cells l.row) (length l.yielded)) l.text
