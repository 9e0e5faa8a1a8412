-- What `some_fails` keeps in its loop: the buckets that are left decide, after those passed, as all did from the start.
use Rattle.std.proofs.Common.{◌≡◌, drop}
use Rattle.float.specs.Rounded.{nought}
use Rattle.adwin_buckets.specs.Cut.{some_fails}
use Rattle.adwin_buckets.proofs.search.some_fails.Given as goal

abbrev pub invariant-loop-b : goal.invariant-loop-b
invariant-loop-b l = some_fails l.test l.n0 l.t0 (drop l.b-index l.buckets) ≡ some_fails l.test nought nought l.fn.buckets
