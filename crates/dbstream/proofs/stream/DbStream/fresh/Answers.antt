-- `DbStream::fresh` meets its contract. Assumes nothing.
use Rattle.dbstream.proofs.stream.DbStream.fresh.Goals as goal

pub returns : goal.returns
returns c = rw (c.new-2.ensures, c.floor.ensures, c.t_gap.ensures)
