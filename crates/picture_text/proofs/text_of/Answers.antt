-- `text_of` meets its contract. Assumes nothing.
use mathlib.Core.Path.{sym, ap, ◌∙◌}
use native.Mathlib.Omega.{arith}
use lib.ListN.{take}
use lib.Seq.{take_all}
use Rattle.text.specs.Refusal.{refused_line}
use Rattle.text.specs.Text.{room}
use Rattle.text.specs.Laws.Pieces.{from_blank}
use Rattle.picture_text.specs.Picture.{picture_text}
use Rattle.picture_text.specs.Laws.Sizes.{never_cut}
use Rattle.picture_text.proofs.Texts.{refused, other_dim, three}
use Rattle.picture_text.proofs.text_of.Goals as goal

pub returns-in-Err : goal.returns-in-Err
returns-in-Err c =
    let s = c.session_of-answer in
    c.refused.ensures ∙ ap refused_line c.into.ensures ∙ refused c.args.input.now s.result s.ensures c.in-Err.refusal c.in-Err.is

pub returns-then-dim-ne-FIGURES : goal.returns-then-dim-ne-FIGURES
returns-then-dim-ne-FIGURES c =
    let s = c.session_of-answer in
    from_blank c.new-text.ensures.empty c.add.ensures (omega arith)
    ∙ other_dim c.args.input.now s.result s.ensures c.in_default.is (λ d. c.if-dim-ne-FIGURES.true (c.dim.ensures ∙ d))

pub returns : goal.returns
returns c =
    let s = c.session_of-answer in
    let input = c.args.input.now in
    c.drawn.ensures
    ∙ ap (take room) (three input s.result s.ensures c.in_default.is (sym c.dim.ensures ∙ c.if-dim-ne-FIGURES.false))
    ∙ take_all room (picture_text input) (never_cut input).is
