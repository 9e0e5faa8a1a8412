use Prim.Native.Nat.{◌*◌}
use mathlib.Core.Path.{◌≡◌}
use Rattle.readout.proofs.Centres.{centres_due}
use Rattle.readout.proofs.Copies.{partly}
use Rattle.readout.proofs.stats.write_centres.Given as goal

abbrev pub invariant-loop-i : goal.invariant-loop-i
invariant-loop-i l = l.out ≡ partly (centres_due l.width l.bodies) l.initial.out (l.i * l.width)
