use Rattle.std.proofs.Common.{◌≡◌, ◌+◌, ◌≤◌, drop}
use Rattle.model.specs.ReadOut.{clusters_in}
use Rattle.readout.proofs.label_readout.n_clusters.Given as goal

abbrev pub invariant-loop-i : goal.invariant-loop-i
invariant-loop-i l = (l.n ≤ l.i) × (l.n + clusters_in (drop l.i l.labels) ≡ clusters_in l.labels)
