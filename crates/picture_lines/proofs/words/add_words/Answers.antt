-- `add_words` meets its contract. Assumes nothing.
use Rattle.text.specs.Laws.Pieces.{both}
use Rattle.picture_lines.proofs.words.add_words.Goals as goal

pub returns : goal.returns
returns c = search both
