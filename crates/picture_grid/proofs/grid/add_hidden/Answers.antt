-- `add_hidden` meets its contract. Assumes nothing.
use Rattle.std.proofs.Common.{eq-eqb, ne_eqb}
use Rattle.text.specs.Laws.Pieces.{nothing, both}
use Rattle.picture_grid.proofs.grid.add_hidden.Goals as goal

pub returns-then-hidden-eq0 : goal.returns-then-hidden-eq0
returns-then-hidden-eq0 c = rw (eq-eqb _ _ c.if-hidden-eq0.true) (nothing c.args.text.now)

pub returns : goal.returns
returns c = rw (ne_eqb _ _ c.if-hidden-eq0.false) (search both)
