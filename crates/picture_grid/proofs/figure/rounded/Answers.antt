-- `rounded` meets its contract. Assumes nothing.
use Rattle.std.proofs.Common.{◌∙◌, ap, min, ℕ}
use Rattle.picture_grid.specs.Figure.{rounded_of}
use Rattle.picture_grid.proofs.Rounding.{capped}
use Rattle.picture_grid.proofs.figure.rounded.Goals as goal

pub returns : goal.returns
unfolding rounded_of
returns c = c.min.ensures ∙ ap (λ (n : ℕ). min n 99999) c.saturating_f64_to_u64.ensures ∙ capped _
