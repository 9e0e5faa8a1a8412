-- `add_number` meets its contract. Assumes nothing.
use Rattle.std.proofs.Common.{◌∙◌, arith}
use Rattle.text.proofs.Decimals.{decimal_is}
use Rattle.text.specs.Laws.Pieces.{worded}
use Rattle.text.proofs.text.Text.add_number.Goals as goal

pub returns : goal.returns
returns c = worded (c.as_bytes.ensures.value ∙ c.format.ensures.text ∙ decimal_is c.args.n (omega arith)) c.add.ensures
