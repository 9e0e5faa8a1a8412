use Rattle.text.specs.Text.{Added, blanks}
use Rattle.text.proofs.text.Text.add_blanks.Given as goal

abbrev pub invariant-loop-i : goal.invariant-loop-i
invariant-loop-i l = Added l.initial.self (blanks l._i) l.self
