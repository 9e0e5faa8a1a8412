-- `add_right` meets its contract. Assumes nothing.
use Rattle.std.proofs.Common.{ℕ, List, ◌-◌, length, ap, ◌∙◌, arith}
use Rattle.text.proofs.Decimals.{decimal_is}
use Rattle.text.specs.Text.{blanks}
use Rattle.text.specs.Laws.Pieces.{both, worded}
use Rattle.text.proofs.text.Text.add_right.Goals as goal

pub returns : goal.returns
returns c =
    let e = c.as_bytes-digits.ensures.value ∙ c.format.ensures.text ∙ decimal_is c.args.n (omega arith) in
    let apart = worded (ap blanks (c.saturating_sub.ensures ∙ ap (λ (ds : List ℕ). c.args.width - length ds) e)) c.add_blanks.ensures in
    both (both apart c.add_byte.ensures) (worded e c.add.ensures)
