-- `add_integer` meets its contract. Assumes nothing.
use Rattle.std.proofs.Common.{ap, ◌∙◌}
use mir.Facts.{to_z-of_z}
use Rattle.std.specs.Fmt.{signed_decimal}
use Rattle.text.proofs.Decimals.{integer_is}
use Rattle.text.specs.Laws.Pieces.{worded}
use Rattle.text.proofs.text.Text.add_integer.Goals as goal

pub returns : goal.returns
returns c = worded (c.as_bytes.ensures.value ∙ c.format.ensures.text ∙ ap signed_decimal (to_z-of_z c.ranges.value) ∙ integer_is c.args.value c.ranges.value.sfits) c.add.ensures
