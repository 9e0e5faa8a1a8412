-- `add_lines` meets its contract. Assumes nothing.
use Rattle.std.proofs.Common.{ℤ, rules, ap, subst}
use Rattle.std.proofs.lemmas.Slice.Zip.{either_empty_from_Zip}
use Rattle.text.specs.Text.{Within}
use Rattle.families_lines.specs.Lines.{line_of}
use Rattle.text.specs.Laws.Pieces.{worded}
use mir.Facts.{to_z-of_z}
use mir.Syntax.{w64}
use mir.Val.{SFits}
use Rattle.families_lines.proofs.Printing.{no_lines, lines_more, all_lines}
use Rattle.families_lines.proofs.add_lines.Goals as goal

pub loop-id-init : goal.loop-id-init
loop-id-init c = no_lines c.args.text.now (search rules) (search rules)

pub loop-id-preserved : goal.loop-id-preserved
loop-id-preserved c =
    let fits : SFits w64 c.in-Some.label.now = search rules in
    lines_more c.in-Some.id.now c.in-Some.label.now c.loop-id.invariant (search rules) (search rules) (worded (ap (line_of c.in-Some.id.now) (to_z-of_z fits)) c.add_line.ensures.added)
    (subst (λ (z : ℤ). Within (line_of c.in-Some.id.now z) 43) (to_z-of_z fits) c.add_line.ensures.within)

pub returns : goal.returns
returns c = let all = all_lines c.loop-id.invariant (either_empty_from_Zip c.loop-id.id-iterator c.next.new.self c.next.result c.in-None.is c.next.ensures.steps) in record { added = all.0; within = all.1 }
