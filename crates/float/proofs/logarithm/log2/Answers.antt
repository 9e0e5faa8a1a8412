-- `log2` meets its contract. Assumes nothing.
use Rattle.float.specs.Ln.{log2_of}
use Rattle.float.proofs.logarithm.log2.Goals as goal

pub returns : goal.returns
unfolding log2_of
returns c = rw c.ln.ensures
