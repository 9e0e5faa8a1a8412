use mathlib.Core.Path.{◌≡◌}
use mathlib.Core.List.{◌++◌}
use Rattle.den_grouping.proofs.Rows.{rows}
use Rattle.den_grouping.proofs.pairs.close_pairs.Given as goal

abbrev pub invariant-loop-i : goal.invariant-loop-i
invariant-loop-i l = l.pairs.items ++ rows l.eps2 l.dim l.pool l.i ≡ rows l.eps2 l.dim l.pool 0
