-- `lambda_in_range` meets its contract. Assumes nothing.
use Rattle.std.proofs.Common.{rules}
use Rattle.model.proofs.questions.lambda_in_range.Goals as goal

pub float_from_bits-t-3 : goal.float_from_bits-t-3
unfolding lib.Ieee.nan_bits
float_from_bits-t-3 c = search rules

pub returns-then-lambda : goal.returns-then-lambda
returns-then-lambda c = rw c.if-lambda.true

pub returns-else-lambda : goal.returns-else-lambda
returns-else-lambda c = rw c.if-lambda.false
