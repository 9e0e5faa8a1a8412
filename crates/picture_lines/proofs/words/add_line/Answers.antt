-- `add_line` meets its contract. Assumes nothing.
use Rattle.text.specs.Laws.Pieces.{both}
use Rattle.picture_lines.specs.Words.{line_of}
use Rattle.picture_lines.proofs.words.add_line.Goals as goal

pub returns : goal.returns
unfolding line_of
returns c =
    let up_to_rate = both (both c.add_heading.ensures c.add.ensures) c.add_figure.ensures in
    let up_to_amplitude = both (both up_to_rate c.add-2.ensures) c.add_figure-2.ensures in
    let up_to_error = both (both up_to_amplitude c.add-3.ensures) c.add_figure-3.ensures in
    let up_to_weight = both (both up_to_error c.add-4.ensures) c.add_figure-4.ensures in
    both up_to_weight c.add-5.ensures
