use Rattle.std.proofs.Common.{◌≡◌, ℕ, ◌<◌, length}
use Rattle.model.specs.Limits.{micros_most}
use Rattle.picture_lines.specs.Row.{row_at, row_in}
use Rattle.picture_lines.proofs.row.rows_of.Given as goal

abbrev pub invariant-loop-i : goal.invariant-loop-i
invariant-loop-i l = record {
  long : length l.rows ≡ micros_most;
  below : (k : ℕ) → k < l.i → row_in l.rows k ≡ row_at l.centres l.weights l.labels k;
}
