-- `add_settings` meets its contract. Assumes nothing.
use Rattle.text.specs.Laws.Pieces.{both}
use Rattle.sample_session.proofs.add_settings.Goals as goal

pub returns : goal.returns
returns c = search both
