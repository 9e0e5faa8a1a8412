use Rattle.text.specs.Text.{Added, each}
use Rattle.sample_session.specs.Sample.{reading_bytes}
use Rattle.sample_session.proofs.add_phase.Given as goal

abbrev pub invariant-loop-i : goal.invariant-loop-i
invariant-loop-i l = Added l.initial.text (each (reading_bytes l.p) l.i) l.text
