use Rattle.std.proofs.Common.{take}
use Rattle.text.specs.declared.text.Text.{Text}
use Rattle.text.specs.Text.{Added}
use Rattle.sample_session.specs.Sample.{settings_bytes}
use Rattle.sample_session.proofs.Sizes.{through}
use Rattle.sample_session.proofs.sample.Given as goal

abbrev pub invariant-loop-phase : goal.invariant-loop-phase
invariant-loop-phase l =
    (t : Text) → Added t settings_bytes l.initial.text → Added t (through (take l.phase-index l.phase-items)) l.text
