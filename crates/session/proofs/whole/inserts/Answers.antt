-- `inserts` meets its contract. Assumes nothing.
use Rattle.model.specs.Stream.{insert_of}
use Rattle.model.specs.Laws.Numbers.{number_of_insertion}
use Rattle.session.specs.Laws.Going.{going_start, going_on, going_end}
use Rattle.session.proofs.whole.inserts.Goals as goal

pub loop-i-init : goal.loop-i-init
loop-i-init g c =
    let a = c.args in
    let k = g.S.Stream in
    going_start (insert_of k.kind) a.lengths.now a.values.now (k.view a.stream) a.numbers.now

pub loop-i-preserved : goal.loop-i-preserved
loop-i-preserved g c =
    let a = c.args in
    let k = g.S.Stream in
    let l = c.loop-i in
    let r = c.try_insert-answer in
    let n = c.number_of in
    going_on (insert_of k.kind) a.lengths.now a.values.now (k.view a.stream) (k.view l.s) _ a.numbers.now l.numbers
    l.i c.min.result n.result l.rest.now c.split_at.result.0.now c.split_at.result.1.now l.invariant c.loop-i-test.true c.requires c.min.ensures
    c.split_at.ensures.front c.split_at.ensures.back r.ensures.result_value
    (number_of_insertion r.result.answer n.ensures)

pub returns : goal.returns
returns g c =
    let a = c.args in
    let k = g.S.Stream in
    let l = c.loop-i in
    let all = going_end (insert_of k.kind) a.lengths.now a.values.now (k.view a.stream) (k.view l.s) a.numbers.now l.numbers l.i l.rest.now l.invariant
    c.loop-i-test.false in
    record { result_value = all.0; numbers_after = all.1 }
