use Rattle.families_lines.proofs.Printing.{Lined}
use Rattle.families_lines.proofs.add_lines.Given as goal

abbrev pub invariant-loop-id : goal.invariant-loop-id
invariant-loop-id l = Lined l.initial.text l.ids l.labels l.id-iterator.a.rest.now l.id-iterator.b.rest.now l.text
