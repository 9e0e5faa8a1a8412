use mathlib.Core.Path.{◌≡◌}
use mathlib.Core.List.{◌++◌}
use Rattle.den_grouping.proofs.Rows.{left, row}
use Rattle.den_grouping.proofs.pairs.pair_row.Given as goal

abbrev pub invariant-loop-j : goal.invariant-loop-j
invariant-loop-j l =
    l.pairs.items ++ left l.eps2 l.i l.centre l.dim l.rest l.j ≡ l.initial.pairs.items ++ row l.eps2 l.i l.centre l.dim l.rest
