-- `add_word` meets its contract. Assumes nothing.
use Rattle.text.specs.Laws.Pieces.{worded}
use Rattle.sample_session.specs.Sample.{word_bytes}
use Rattle.sample_session.proofs.add_word.Goals as goal

pub returns : goal.returns
unfolding word_bytes
returns c = worded c.to_le_bytes.ensures c.add.ensures
