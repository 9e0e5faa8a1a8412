-- `retain` meets its contract. Assumes nothing.
use Rattle.std.proofs.Common.{◌+◌, arith, refl, sym, ap, ◌∙◌, Bool}
use Rattle.std.proofs.lemmas.Fn.{says_at}
use Rattle.std.proofs.lemmas.List.{take_all, drop-set-lt}
use Rattle.lists.specs.Retain.{AnswersBy, retain}
use Rattle.lists.specs.Laws.Rest.{rest_start, drop_on}
use Rattle.lists.specs.Laws.Loops.{retain_take, retain_drop, retain_end}
use Rattle.lists.proofs.retain.Goals.{then-keep, else-keep}
use Rattle.lists.proofs.retain.Goals as goal

pub loop-i-init : goal.loop-i-init
loop-i-init g c = (
  omega arith,
  λ p a. ap (retain p) (rest_start _ c.args.items.now ∙ take_all _ c.args.items.now (omega arith)),
  refl,
)

pub loop-i-preserved : goal.loop-i-preserved
loop-i-preserved g c =
    let at = c.loop-i in
    let item = c.index-items-i in
    let h = c.loop-i-test.true in
    let said = λ (p : g.row.T.Denot → Bool) (a : AnswersBy g.F.Fn c.args.keep p). a item.result c.keep.result (says_at g.F.Fn c.keep.ensures refl) in
    elim c.if-keep.branch [
      | then-keep w ↦ (
        omega arith,
        λ p a. rw (w.items-is, w.kept-is)
            (retain_take p _ at.i at.kept at.items item.result h (omega arith) item.result at.invariant.0 item.is (sym (said p a) ∙ w.if-keep.true) ∙ at.invariant.1 p a),
        rw (w.items-is, w.kept-is)
            (drop-set-lt (at.kept + 1) at.items at.kept item.result (omega arith)
            ∙ drop_on at.kept (at.kept + 1) at.items c.args.items.now (omega arith) at.invariant.2),
      )
      | else-keep w ↦ (
        omega arith,
        λ p a. rw (w.items-is, w.kept-is)
            (retain_drop p _ at.i at.kept at.items item.result h (omega arith) (ap p (sym item.is) ∙ sym (said p a) ∙ w.if-keep.false) ∙ at.invariant.1 p a),
        rw (w.items-is, w.kept-is) at.invariant.2,
      )
    ]

pub returns-clause-kept : goal.returns-clause-kept
returns-clause-kept g c =
    let at = c.loop-i in
    λ p a. sym (retain_end p _ at.i at.kept at.items c.loop-i-test.false) ∙ at.invariant.1 p a
