-- `DenStream::prune` meets its contract. Assumes nothing.
use Prim.Native.Nat.{◌≤◌}
use mathlib.Core.Path.{ap, ◌∙◌}
use native.Mathlib.Omega.{arith}
use lib.ListN.{length, take}
use borrow.Author.Rules.{rules}
use Rattle.lists.specs.Retain.{retain}
use Rattle.model.specs.Stream.{holding}
use Rattle.model.specs.DenInsert.{potential_stays, outlier_stays}
use Rattle.den_placement.specs.Laws.Pools.{prunes}
use Rattle.denstream.specs.View.{view, dim_of, held_in}
use Rattle.denstream.proofs.Places.{front_is, front_length}
use Rattle.denstream.proofs.stream.DenStream.prune.Goals as goal

pub returns : goal.returns
unfolding held_in
returns c =
    let s = c.args.self.now in
    let np = c.potential_held-np in
    let no = c.outliers_held-no in
    let a = c.retain-self in
    let b = c.retain-self-2 in
    let i : a.result ≤ length a.new.items = omega arith in
    let j : b.result ≤ length b.new.items = omega arith in
    ap (holding (view s))
    (prunes (dim_of s) s.potential s.potential_count s.outliers s.outlier_count (omega arith) (omega arith) s.params s.t _ _ a.result b.result
    (front_is a.result a.new.items _ i _ (a.ensures.kept (potential_stays s.params s.t) (λ m v k. search rules))
    ∙ ap (λ n. retain (potential_stays s.params s.t) (take n s.potential)) np.ensures)
    (front_length a.result a.new.items _ i)
    (front_is b.result b.new.items _ j _ (b.ensures.kept (outlier_stays s.params s.t) (λ m v k. search rules))
    ∙ ap (λ n. retain (outlier_stays s.params s.t) (take n s.outliers)) no.ensures)
    (front_length b.result b.new.items _ j))
