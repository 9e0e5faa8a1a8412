-- `add_line` meets its contract. Assumes nothing.
use mathlib.Core.Path.{ap}
use native.Mathlib.Omega.{arith}
use mir.Facts.{to_z-of_z}
use Rattle.text.specs.Decimal.{integer}
use Rattle.text.specs.Laws.Pieces.{both, worded}
use Rattle.families_lines.proofs.Printing.{line_within}
use Rattle.families_lines.proofs.add_line.Goals as goal

pub returns : goal.returns
returns c =
    let label = worded (ap integer (to_z-of_z c.ranges.label)) c.add_integer.ensures in
    record { added = search both; within = line_within c.args.id c.args.label (omega arith) c.ranges.label.sfits }
