use Rattle.std.specs.Prelude.{◌≡◌, length}
use Rattle.input_session.proofs.Inputs.{Partly}
use Rattle.input_session.proofs.parse.point.Given as goal

abbrev pub invariant-loop-i : goal.invariant-loop-i
invariant-loop-i l = (length l.x ≡ 15) × Partly l.bytes l.dim l.x l.i
