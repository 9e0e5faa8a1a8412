-- `refused` meets its contract. Assumes nothing.
use Rattle.std.proofs.Common.{arith}
use Rattle.text.specs.Ascii.{ascii}
use Rattle.text.specs.Text.{Added}
use Rattle.text.specs.Refusal.{refused_line}
use Rattle.text.specs.Laws.Pieces.{both, from_blank}
use Rattle.text.specs.Laws.Sizes.{piece, beside, number_within}
use Rattle.text.proofs.refusal.refused.Goals as goal

pub returns : goal.returns
returns c =
    let n = c.args.number in
    let fits = beside (beside (piece (ascii "refused ")) (number_within n (omega arith))) (piece (ascii "\n")) in
    let line : Added c.new-line.result (refused_line n) c.add-2.new.self = search both in
    from_blank c.new-line.ensures.empty line (omega (arith, fits.is))
