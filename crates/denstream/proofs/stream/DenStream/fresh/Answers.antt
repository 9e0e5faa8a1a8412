-- `DenStream::fresh` meets its contract. Assumes nothing.
use Rattle.denstream.specs.View.{held_in}
use Rattle.denstream.proofs.stream.DenStream.fresh.Goals as goal

pub returns : goal.returns
unfolding held_in
returns c = rw (c.new-2.ensures, c.tp.ensures)
