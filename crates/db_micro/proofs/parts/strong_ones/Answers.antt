-- `strong_ones` meets its contract. Assumes nothing.
use Rattle.std.proofs.Common.{rules}
use Rattle.db_micro.specs.Held.{reaches}
use Rattle.db_micro.proofs.parts.strong_ones.Goals as goal

pub returns : goal.returns
returns c = c.each.ensures (reaches c.args.lambda c.args.t c.args.min_weight) (λ m v k. search rules)
