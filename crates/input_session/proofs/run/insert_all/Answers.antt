-- `insert_all` meets its contract. Assumes nothing.
use Rattle.std.proofs.Common.{sym, ◌∙◌, arith, rules}
use Rattle.std.proofs.lemmas.Result.{err_from_is_err_and}
use Rattle.model.specs.Told.{inserted_told}
use Rattle.dbstream.specs.View.{view}
use Rattle.input_session.proofs.Runs.{none_left, goes_on, stops}
use Rattle.input_session.proofs.run.insert_all.Goals as goal

pub loop-bytes-init : goal.loop-bytes-init
loop-bytes-init c = search rules

pub loop-bytes-preserved : goal.loop-bytes-preserved
loop-bytes-preserved c =
    let a = c.args in
    let l = c.loop-bytes in
    let s = c.in-Some.ensures.steps in
    let r = c.try_insert-inserted in
    let next = goes_on a.dim c.requires.0 l.bytes-iterator.rest.now c.in-Some.bytes.now c.next.new.self.rest.now s.1.0 (s.1.1 ∙ l.invariant.0)
    (view l.stream) _ c.point-point.ensures (inserted_told view r.result) r.ensures.result_value c.in_ok-answer.was in
    (s.0 ∙ l.invariant.0, next ∙ l.invariant.1)

pub returns-in_err-answer : goal.returns-in_err-answer
returns-in_err-answer c =
    let a = c.args in
    let l = c.loop-bytes in
    let s = c.in-Some.ensures.steps in
    let r = c.try_insert-inserted in
    let last = stops a.dim c.requires.0 l.bytes-iterator.rest.now c.in-Some.bytes.now c.next.new.self.rest.now s.1.0 (s.1.1 ∙ l.invariant.0)
    (view l.stream) _ c.point-point.ensures (inserted_told view r.result) r.ensures.result_value c.in_err-answer.field-0.0 c.in_err-answer.was in
    let p = err_from_is_err_and c.from_residual.result c.from_residual.ensures.1 in
    rw (p.1, p.2, ← c.in_err-answer.was) (last ∙ l.invariant.1)

pub returns : goal.returns
returns c =
    let a = c.args in
    let l = c.loop-bytes in
    let s = c.in-None.ensures.steps in
    sym (none_left a.dim l.bytes-iterator.rest.now (view l.stream) (omega (arith, s.1.0, l.invariant.0))) ∙ l.invariant.1
