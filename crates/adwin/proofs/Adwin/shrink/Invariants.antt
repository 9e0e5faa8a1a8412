-- What the loop of `shrink` keeps: the search that goes on is the search from its start.
use Rattle.adwin.proofs.Drops.{Searching}
use Rattle.adwin.specs.View.{view}
use Rattle.adwin.proofs.Adwin.shrink.Given as goal

abbrev pub invariant-loop-verdict : goal.invariant-loop-verdict
invariant-loop-verdict l = Searching (view l.initial.self) l.self l.verdict

abbrev pub decreases-loop-verdict : goal.decreases-loop-verdict
decreases-loop-verdict l = l.self.count
