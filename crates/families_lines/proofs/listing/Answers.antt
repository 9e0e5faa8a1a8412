-- `listing` meets its contract. Assumes nothing.
use Rattle.std.proofs.Common.{List, ℕ, ◌++◌, take, ap, ◌∙◌, arith}
use Rattle.text.specs.Text.{room}
use Rattle.text.specs.Laws.Pieces.{both, from_blank}
use Rattle.text.specs.Laws.Sizes.{beside}
use Rattle.families_lines.specs.Lines.{lines_of, last_line}
use Rattle.families_lines.proofs.listing.Goals as goal

pub returns-clause-cut : goal.returns-clause-cut
returns-clause-cut c =
    let all = lines_of c.args.ids.now c.args.labels.now ++ last_line c.args.report in
    (both c.add_lines.ensures.added c.add_last.ensures.added).is ∙ ap (λ (f : List ℕ). take room (f ++ all)) c.new-text.ensures.empty

pub returns-clause-whole : goal.returns-clause-whole
returns-clause-whole c few =
    let p = c.add_lines.ensures in
    let q = c.add_last.ensures in
    from_blank c.new-text.ensures.empty (both p.added q.added) (omega (arith, (beside p.within q.within).is, few))
