-- `unit` meets its contract. Assumes nothing.
use native.Mathlib.Omega.{arith}
use Rattle.sample_session.proofs.Sizes.{product}
use Rattle.sample_session.proofs.unit.Goals as goal

pub overflow_mul-k : goal.overflow_mul-k
overflow_mul-k c = record { fits = product c.args.i c.args.m (omega arith) (omega arith) }
