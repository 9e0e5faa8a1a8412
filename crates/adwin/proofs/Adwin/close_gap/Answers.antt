-- `Adwin::close_gap` meets its contract. Assumes nothing.
use Rattle.std.proofs.Common.{◌≡◌, ◌-◌, ◌≤◌, ℕ, List, length, take, ap, ap₂, ◌∙◌, arith}
use Rattle.adwin_buckets.specs.declared.bucket.Bucket.{Bucket}
use Rattle.adwin.specs.View.{classed, view}
use Rattle.adwin.specs.Inside.Lists.{with_held}
use Rattle.adwin.proofs.Gap.{gap_closed}
use Rattle.adwin.proofs.Adwin.close_gap.Goals as goal

pub returns : goal.returns
returns c =
    let a = c.args.self.now in
    let n : a.count ≤ length a.buckets = omega arith in
    let e : length a.classes ≡ length a.buckets = omega arith in (
      omega arith,
      ap (with_held (view a))
          (ap₂ (λ (cs : List ℕ) (bs : List Bucket). take (a.count - 1) (classed cs bs)) c.copy_within-2.ensures.after c.copy_within.ensures.after
          ∙ gap_closed a.count c.args.at a.classes a.buckets c.requires.0 n e),
    )
