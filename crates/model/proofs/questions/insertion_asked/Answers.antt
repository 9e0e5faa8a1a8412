-- `insertion_asked` meets its contract. Assumes nothing.
use Rattle.std.proofs.Common.{sym, eq-eqb, ne_eqb}
use Rattle.model.proofs.questions.insertion_asked.Goals as goal

pub returns-then-got-dim : goal.returns-then-got-dim
returns-then-got-dim c =
    let a = c.args in
    sym (rw (ne_eqb a.got a.dim c.if-got-dim.true))

pub returns-then-not-t : goal.returns-then-not-t
returns-then-not-t c =
    let a = c.args in
    let shape = eq-eqb a.got a.dim c.if-got-dim.false in
    sym (rw (shape, c.if-not-t.true))

pub returns-then-not-place : goal.returns-then-not-place
returns-then-not-place c =
    let a = c.args in
    let shape = eq-eqb a.got a.dim c.if-got-dim.false in
    let clock = c.if-not-t.false in
    sym (rw (shape, clock, c.if-not-place.true))

pub returns : goal.returns
returns c =
    let a = c.args in
    let shape = eq-eqb a.got a.dim c.if-got-dim.false in
    let clock = c.if-not-t.false in
    sym (rw (shape, clock, c.if-not-place.false))
