-- `reaching` meets its contract: at a root that has no sum both sides say no, since NaN is not above mu. Assumes nothing.
use Prim.Native.Nat.{ℕ}
use lib.Ieee.{le, nan}
use lib.ListN.{get_or}
use borrow.Author.Rules.{rules}
use Rattle.den_grouping.proofs.groups.reaching.Goals as goal

pub returns : goal.returns
unfolding le
returns c = c.each.ensures (λ (v : ℕ). le c.args.mu (get_or c.args.sums.now v nan)) (λ root b k. search rules)
