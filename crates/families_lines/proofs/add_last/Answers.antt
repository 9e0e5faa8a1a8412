-- `add_last` meets its contract. Assumes nothing.
use native.Mathlib.Omega.{arith}
use Rattle.text.specs.Laws.Pieces.{both}
use Rattle.families_lines.proofs.Printing.{last_within}
use Rattle.families_lines.proofs.add_last.Goals as goal

pub returns : goal.returns
returns c = record { added = search both; within = last_within c.args.report (omega arith) (omega arith) }
