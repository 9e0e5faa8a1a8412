-- `Adwin::must_drop` meets its contract. Assumes nothing.
use Rattle.adwin.specs.Cut.{must_drop}
use Rattle.adwin.proofs.Adwin.must_drop.Goals as goal

pub returns-then-self : goal.returns-then-self
unfolding must_drop
returns-then-self c = rw (c.if-self.true, ← c.cut_test.ensures, ← c.held.ensures) c.some_fails.ensures

pub returns-else-self : goal.returns-else-self
unfolding must_drop
returns-else-self c = rw c.if-self.false
