-- `Adwin::drop_oldest` meets its contract. Assumes nothing.
use Rattle.std.proofs.Common.{◌≡◌, length, arith}
use Rattle.adwin.specs.Settings.{places}
use Rattle.adwin.specs.View.{view}
use Rattle.adwin.proofs.Drops.{dropped_is}
use Rattle.adwin.proofs.Adwin.drop_oldest.Goals as goal

pub returns : goal.returns
returns c =
    let a = c.args.self.now in
    let b : length a.buckets ≡ places = omega arith in
    let k : length a.classes ≡ places = omega arith in (
      c.close_gap.ensures.0,
      dropped_is a _ _ (view c.close_gap.new.self) b k c.requires.0 c.variance_without-self.ensures c.close_gap.ensures.1,
    )
