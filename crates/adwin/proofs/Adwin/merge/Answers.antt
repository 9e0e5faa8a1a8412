-- `Adwin::merge` meets its contract. Assumes nothing.
use Rattle.std.proofs.Common.{◌≡◌, ◌≤◌, length, ap, ◌∙◌, arith}
use Rattle.adwin.specs.View.{view}
use Rattle.adwin.specs.Inside.Lists.{with_held}
use Rattle.adwin.proofs.Carries.{merged_both}
use Rattle.adwin.proofs.Adwin.merge.Goals as goal

pub returns : goal.returns
returns c =
    let a = c.args.self.now in
    let n : a.count ≤ length a.buckets = omega arith in
    let e : length a.classes ≡ length a.buckets = omega arith in (
      c.close_gap.ensures.0,
      c.close_gap.ensures.1
          ∙ ap (with_held (view a))
          (merged_both a.count c.args.at a.classes a.buckets n e c.saturating_add.result c.merged.result c.requires.0 c.saturating_add.ensures
          c.merged.ensures),
    )
