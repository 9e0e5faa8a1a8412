-- `faded_weights` meets its contract. Assumes nothing.
use Rattle.std.proofs.Common.{rules}
use Rattle.den_pool.proofs.pool.faded_weights.Goals as goal

pub returns : goal.returns
returns c = c.each.ensures _ (λ m b k. search rules)
