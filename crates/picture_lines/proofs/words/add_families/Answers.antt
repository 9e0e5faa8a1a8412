-- `add_families` meets its contract. Assumes nothing.
use Rattle.std.proofs.Common.{ℕ, List, length, ap, arith}
use Rattle.text.specs.Laws.Pieces.{first, more, worded, ended}
use Rattle.picture_lines.specs.declared.row.Row.{Row}
use Rattle.picture_lines.specs.Row.{letter_of, row_in}
use Rattle.picture_lines.specs.Words.{lines_in}
use Rattle.picture_lines.proofs.words.add_families.Goals as goal

-- the lines of a family
abbrev family_in : List Row → (k : ℕ) → List ℕ
family_in rows k = lines_in (row_in rows) (length rows) (letter_of k)

pub loop-family-init : goal.loop-family-init
loop-family-init c = first (family_in c.args.rows.now) c.args.text.now

pub loop-family-preserved : goal.loop-family-preserved
loop-family-preserved c =
    let rows = c.args.rows.now in
    let l = c.loop-family in
    more (family_in rows) l.family l.invariant (worded (ap (lines_in (row_in rows) (length rows)) c.letter.ensures) c.add_lines_in.ensures)

pub returns : goal.returns
returns c = ended (family_in c.args.rows.now) (omega arith) c.loop-family.invariant
