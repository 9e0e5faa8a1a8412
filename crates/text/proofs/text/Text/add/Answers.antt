-- `add` meets its contract. Assumes nothing.
use Rattle.std.proofs.Common.{refl}
use Rattle.text.proofs.Adding.{added}
use Rattle.text.proofs.text.Text.add.Goals as goal

pub returns : goal.returns
returns c =
    added c.args.self.now _ c.min-at.result c.min-n.result c.args.piece.now c.copy_from_slice.new.self c.min-at.ensures c.min-n.ensures
    c.copy_from_slice.ensures.after refl refl
