-- `log_series` meets its contract. Assumes nothing.
use Rattle.std.proofs.Common.{◌≡◌, ◌∙◌, arith}
use lib.Ieee.{of_bits}
use Rattle.float.specs.Ln.{series}
use Rattle.float.proofs.Steps.{series_next}
use Rattle.float.proofs.logarithm.log_series.Goals as goal

pub loop-k-preserved : goal.loop-k-preserved
unfolding of_bits
loop-k-preserved c =
    let l = c.loop-k in series_next c.args.q l.h l.k (omega arith) ∙ l.invariant

pub returns : goal.returns
unfolding series
returns c = let e : c.loop-k.k ≡ 0 = omega arith in rw e at c.loop-k.invariant
