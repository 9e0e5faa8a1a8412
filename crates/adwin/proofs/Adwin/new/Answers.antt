-- `Adwin::new` meets its contract. Assumes nothing.
use lib.Ieee.{of_bits, le, sub}
use Rattle.adwin.proofs.Adwin.new.Goals as goal

pub clamp-requires : goal.clamp-requires
unfolding le of_bits sub
clamp-requires c = tt

pub returns : goal.returns
unfolding of_bits sub
returns c = rw c.clamp.ensures.value
