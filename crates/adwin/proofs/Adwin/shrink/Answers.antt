-- `Adwin::shrink` meets its contract. Assumes nothing.
use Rattle.adwin.proofs.Drops.{search_starts, search_goes_on, search_ends, some_held}
use Rattle.adwin.specs.View.{classed, sums_of}
use Rattle.std.proofs.Common.{sym, ◌∙◌}
use Rattle.adwin.proofs.Adwin.shrink.Goals as goal

pub loop-verdict-init : goal.loop-verdict-init
loop-verdict-init c = search_starts c.args.self.now c.requires

pub drop_oldest-requires : goal.drop_oldest-requires
drop_oldest-requires c =
    let s = c.loop-verdict.self in (
      some_held s.delta (sums_of s) s.count (classed s.classes s.buckets) (sym c.must_drop.ensures ∙ c.loop-verdict-test.true),
      c.loop-verdict.invariant.room,
    )

pub loop-verdict-preserved : goal.loop-verdict-preserved
loop-verdict-preserved c =
    search_goes_on _ c.loop-verdict.self c.loop-verdict.verdict _ c.loop-verdict.invariant (sym c.must_drop.ensures ∙ c.loop-verdict-test.true)
    c.drop_oldest.ensures.0 c.drop_oldest.ensures.1

pub returns : goal.returns
returns c =
    search_ends _ c.loop-verdict.self c.loop-verdict.verdict c.loop-verdict.invariant (sym c.must_drop.ensures ∙ c.loop-verdict-test.false)
