use Rattle.std.proofs.Common.{ℕ, ◌-◌}
use Rattle.text.specs.Text.{Added, each}
use Rattle.picture_grid.specs.Grid.{row_text}
use Rattle.picture_grid.proofs.grid.add_rows.Given as goal

-- `l.row` lines are left
abbrev pub invariant-loop-row : goal.invariant-loop-row
invariant-loop-row l = Added l.initial.text (each (λ (k : ℕ). row_text l.up l.cells (18 - k)) (19 - l.row)) l.text
