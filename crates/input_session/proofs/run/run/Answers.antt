-- `run` meets its contract. Assumes nothing.
use Rattle.std.proofs.Common.{sym, ◌∙◌}
use Rattle.std.proofs.lemmas.Result.{err_from_is_err_and}
use Rattle.input_session.specs.Input.{settings_in}
use Rattle.input_session.proofs.Sessions.{in_range, not_whole, not_open, inserted}
use Rattle.input_session.proofs.run.run.Goals as goal

pub returns-then-not-is_whole : goal.returns-then-not-is_whole
returns-then-not-is_whole c = not_whole c.args.input.now _ c.requires (sym c.is_whole.ensures ∙ c.if-not-is_whole.true)

pub returns-in_err-opening : goal.returns-in_err-opening
returns-in_err-opening c =
    let whole = sym c.is_whole.ensures ∙ c.if-not-is_whole.false in
    let p = err_from_is_err_and c.from_residual.result c.from_residual.ensures.1 in
    rw (p.1, p.2) (not_open c.args.input.now _ c.requires whole c.in_err-opening.field-0.0 c.in_err-opening.was)

pub insert_all-requires : goal.insert_all-requires
insert_all-requires c =
    rw c.word_at-dim.ensures (in_range (settings_in c.args.input.now) _ c.requires c.in_ok-opening.was)

pub returns-in_err-insert_all : goal.returns-in_err-insert_all
returns-in_err-insert_all c =
    let whole = sym c.is_whole.ensures ∙ c.if-not-is_whole.false in
    let r = c.from_residual-in_err-insert_all in
    let p = err_from_is_err_and r.result r.ensures.1 in
    let all = inserted c.args.input.now _ c.requires whole c.in_ok-opening.was c.word_at-dim.result c.word_at-dim.ensures _ c.insert_all.ensures in
    rw (p.1, p.2) (rw c.in_err-insert_all.was at all)

pub returns : goal.returns
returns c =
    let whole = sym c.is_whole.ensures ∙ c.if-not-is_whole.false in
    let all = inserted c.args.input.now _ c.requires whole c.in_ok-opening.was c.word_at-dim.result c.word_at-dim.ensures _ c.insert_all.ensures in
    rw c.in_ok-insert_all.was at all
