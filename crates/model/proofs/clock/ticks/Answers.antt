-- `ticks` meets its contract. Assumes nothing.
use Rattle.std.proofs.Common.{arith}
use lib.Ieee.{of_bits}
use Rattle.float.specs.Laws.Cutting.{can_cut}
use Rattle.model.specs.Fading.{ticks_of}
use Rattle.model.proofs.clock.ticks.Goals as goal
use Rattle.model.proofs.clock.ticks.Goals.{else-x-via-then-x+else-x-2, else-x-via-else-x}

pub truncating_f64_to_u64-requires : goal.truncating_f64_to_u64-requires
unfolding of_bits
truncating_f64_to_u64-requires c = let all = can_cut _ 1 63 (omega arith) c.if-x.true c.if-x-2.true in record { lower_bound = all.0; upper_bound = all.1 }

pub returns-then-x-2 : goal.returns-then-x-2
unfolding ticks_of
returns-then-x-2 c = rw (c.if-x.true, c.if-x-2.true) c.truncating_f64_to_u64.ensures

pub returns-else-x : goal.returns-else-x
unfolding ticks_of
returns-else-x c = elim c.else-x.branch [
  | else-x-via-then-x+else-x-2 w ↦ rw (w.if-x.true, w.if-x-2.false)
  | else-x-via-else-x w ↦ rw w.if-x.false
]
