-- `figure` meets its contract. Assumes nothing.
use Rattle.std.proofs.Common.{Option, le_refl, ap, ◌∙◌}
use Rattle.std.specs.Option.{unwrap_or}
use lib.Ieee.{Float, nan, of_bits}
use Rattle.picture_lines.proofs.row.figure.Goals as goal

pub returns : goal.returns
unfolding of_bits
returns c =
    c.unwrap_or.ensures ∙ ap (λ (o : Option Float). unwrap_or o nan) c.copied.ensures ∙ c.get.ensures.lookup.4 (le_refl c.args.i) nan
