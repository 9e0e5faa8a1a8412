use Rattle.std.proofs.Common.{◌≡◌}
use Rattle.float.specs.Rounded.{nought}
use Rattle.float.specs.Ln.{series}
use Rattle.float.proofs.logarithm.log_series.Given as goal

abbrev pub invariant-loop-k : goal.invariant-loop-k
invariant-loop-k l = series l.q l.k l.h ≡ series l.q 21 nought
