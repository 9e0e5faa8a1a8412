-- `asked` meets its contract. Assumes nothing.
use mathlib.Core.Path.{◌≡◌, refl, ap, ◌∙◌}
use mathlib.Core.Bool.{true, false}
use borrow.Author.Rules.{rules}
use Rattle.model.specs.Answers.{is_open}
use Rattle.model.proofs.Laws.Numbers.{open_ok}
use Rattle.denstream.proofs.Openings.{asked_of}
use Rattle.denstream.proofs.opening.asked.Goals as goal

pub returns-in_err-asked : goal.returns-in_err-asked
returns-in_err-asked c =
    let same : c.from_residual.result ≡ c.asked.result = search rules in
    same ∙ asked_of c.args.settings c.asked.result false _ c.asked.ensures (open_ok c.asked.result ∙ search rules) refl

pub returns-then-settings : goal.returns-then-settings
returns-then-settings c = asked_of c.args.settings c.asked.result true true c.asked.ensures (ap is_open c.in_ok-asked.was) c.if-settings.true

pub returns : goal.returns
returns c = asked_of c.args.settings c.asked.result true false c.asked.ensures (ap is_open c.in_ok-asked.was) c.if-settings.false
