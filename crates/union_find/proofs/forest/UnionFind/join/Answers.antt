-- `join` meets its contract: a union where both places are below n. Assumes nothing.
use native.Mathlib.Omega.{arith}
use Rattle.union_find.proofs.Joining.{join_made, join_none}
use Rattle.union_find.proofs.forest.UnionFind.join.Goals.{else-a-n-via-then-a-n+else-b-n, else-a-n-via-else-a-n}
use Rattle.union_find.proofs.forest.UnionFind.join.Goals as goal

pub returns-then-b-n : goal.returns-then-b-n
returns-then-b-n c =
    let a = c.args in
    let all = join_made a.n a.self.now (a.a, a.b) (omega arith) (omega arith) (c.union.ensures.after, c.union.ensures.work) in
    record { after = all.0; work = all.1 }

pub returns : goal.returns
returns c =
    let a = c.args in
    let all = join_none a.n a.self.now (a.a, a.b)
    (λ ga gb. elim c.else-a-n.branch [ else-a-n-via-then-a-n+else-b-n w ↦ omega arith | else-a-n-via-else-a-n w ↦ omega arith ]) in
    record { after = all.0; work = all.1 }
