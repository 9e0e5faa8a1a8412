-- `text_of` meets its contract. Assumes nothing.
use Rattle.std.proofs.Common.{ap, ◌∙◌}
use Rattle.text.specs.Refusal.{refused_line}
use Rattle.families_text.proofs.Texts.{refused, clustered}
use Rattle.families_text.proofs.text_of.Goals as goal

pub returns-in-Err : goal.returns-in-Err
returns-in-Err c =
    let s = c.session_of-answer in
    c.refused.ensures ∙ ap refused_line c.into.ensures ∙ refused c.args.input.now s.result s.ensures c.in-Err.refusal c.in-Err.is

pub returns : goal.returns
returns c =
    let s = c.session_of-answer in
    c.clustered_text.ensures ∙ clustered c.args.input.now s.result s.ensures c.in_default.is
