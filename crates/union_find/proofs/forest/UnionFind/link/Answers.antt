-- `link` meets its contract: nothing for one root, else what `by_rank` answers is stored. Assumes nothing.
use mathlib.Core.Path.{sym}
use Rattle.union_find.specs.Inside.Told.{forest_by}
use Rattle.union_find.specs.Laws.Union.{link_same}
use Rattle.union_find.proofs.Linking.{linked_is}
use Rattle.union_find.proofs.forest.UnionFind.link.Goals as goal

pub returns-then-x-y : goal.returns-then-x-y
returns-then-x-y c =
    let a = c.args in
    linked_is (forest_by a.parent.now a.rank.now) a.x a.y c.if-x-y.true c.by_rank-to.result c.by_rank-to.ensures

pub returns-else-x-y : goal.returns-else-x-y
returns-else-x-y c = sym (link_same _ _ _ c.if-x-y.false)
