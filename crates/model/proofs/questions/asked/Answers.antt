-- `asked` meets its contract. Assumes nothing.
use Rattle.std.proofs.Common.{◌≡◌, true, sym, ◌∙◌}
use Rattle.model.specs.Questions.{dim_in_range, positive, lambda_in_range, share_in_range}
use Rattle.model.proofs.questions.asked.Goals.{After-lambda_in_range, After-positive, After-positive-2, After-share_in_range}
use Rattle.model.proofs.questions.asked.Goals as goal

yes_dim : (c : goal.After-positive) → dim_in_range c.args.dim ≡ true
yes_dim c = sym c.dim_in_range.ensures ∙ c.if-not-dim_in_range.false

yes_radius : (c : goal.After-lambda_in_range) → positive c.args.radius ≡ true
yes_radius c = sym c.positive.ensures ∙ c.if-not-positive.false

yes_lambda : (c : goal.After-share_in_range) → lambda_in_range c.args.lambda ≡ true
yes_lambda c = sym c.lambda_in_range.ensures ∙ c.if-not-lambda_in_range.false

yes_share : (c : goal.After-positive-2) → share_in_range c.args.share ≡ true
yes_share c = sym c.share_in_range.ensures ∙ c.if-not-share_in_range.false

pub returns-then-not-dim_in_range : goal.returns-then-not-dim_in_range
returns-then-not-dim_in_range c = rw (sym c.dim_in_range.ensures ∙ c.if-not-dim_in_range.true)

pub returns-then-not-positive : goal.returns-then-not-positive
returns-then-not-positive c =
    rw (yes_dim (goal.at.returns-then-not-positive c).After-positive, sym c.positive.ensures ∙ c.if-not-positive.true)

pub returns-then-not-lambda_in_range : goal.returns-then-not-lambda_in_range
returns-then-not-lambda_in_range c =
    rw (
      yes_dim (goal.at.returns-then-not-lambda_in_range c).After-positive,
      yes_radius
          (goal.at.returns-then-not-lambda_in_range c).After-lambda_in_range,
      sym c.lambda_in_range.ensures ∙ c.if-not-lambda_in_range.true,
    )

pub returns-then-not-share_in_range : goal.returns-then-not-share_in_range
returns-then-not-share_in_range c =
    rw (
      yes_dim (goal.at.returns-then-not-share_in_range c).After-positive,
      yes_radius
          (goal.at.returns-then-not-share_in_range c).After-lambda_in_range,
      yes_lambda
          (goal.at.returns-then-not-share_in_range c).After-share_in_range,
      sym c.share_in_range.ensures ∙ c.if-not-share_in_range.true,
    )

pub returns-then-not-positive-2 : goal.returns-then-not-positive-2
returns-then-not-positive-2 c =
    rw (
      yes_dim (goal.at.returns-then-not-positive-2 c).After-positive,
      yes_radius (goal.at.returns-then-not-positive-2 c).After-lambda_in_range,
      yes_lambda (goal.at.returns-then-not-positive-2 c).After-share_in_range,
      yes_share (goal.at.returns-then-not-positive-2 c).After-positive-2,
      sym c.positive-2.ensures ∙ c.if-not-positive-2.true,
    )

pub returns : goal.returns
returns c =
    rw (
      yes_dim (goal.at.returns c).After-positive,
      yes_radius (goal.at.returns c).After-lambda_in_range,
      yes_lambda
          (goal.at.returns c).After-share_in_range,
      yes_share (goal.at.returns c).After-positive-2,
      sym c.positive-2.ensures ∙ c.if-not-positive-2.false,
    )
