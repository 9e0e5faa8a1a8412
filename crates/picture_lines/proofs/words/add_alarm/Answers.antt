-- `add_alarm` meets its contract. Assumes nothing.
use Rattle.std.proofs.Common.{eq-eqb, ne_eqb}
use Rattle.text.specs.Laws.Pieces.{both}
use Rattle.picture_lines.proofs.words.add_alarm.Goals as goal

pub returns-then-alarms-eq1 : goal.returns-then-alarms-eq1
returns-then-alarms-eq1 c =
    let rang = both c.add-2.ensures c.add_number.ensures in
    rw (ne_eqb _ _ c.if-alarms-eq0.false, eq-eqb _ _ c.if-alarms-eq1.true) (both rang c.add-then-alarms-eq1.ensures)

pub returns : goal.returns
returns c =
    let rang = both c.add-2.ensures c.add_number.ensures in
    rw (ne_eqb _ _ c.if-alarms-eq0.false, ne_eqb _ _ c.if-alarms-eq1.false) (both rang c.add-3.ensures)
