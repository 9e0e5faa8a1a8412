-- `group_labels` meets its contract: of the first 64 micro-clusters. Assumes nothing.
use Prim.Native.Nat.{◌≤◌, min}
use mathlib.Core.Path.{◌≡◌, sym, ◌∙◌}
use native.Mathlib.Omega.{arith}
use lib.ListN.{length, take, length-take}
use borrow.Author.Rules.{rules}
use Rattle.std.proofs.lemmas.List.{take_min}
use Rattle.lists.specs.Laws.Rest.{cut_take}
use Rattle.model.specs.Limits.{micros_most}
use Rattle.den_grouping.proofs.Labelled.{grouped, worked}
use Rattle.den_grouping.proofs.groups.group_labels.Goals.{After-min}
use Rattle.den_grouping.proofs.groups.group_labels.Goals as goal

-- no more than 64 are lent on
few : (c : goal.After-min) → length (take c.min.result c.args.pool.now) ≤ micros_most
few c = omega (arith, length-take c.min.result c.args.pool.now)

pub returns : goal.returns
returns c =
    let a = c.args in
    let p = a.params.now in
    let pool = take c.min.result a.pool.now in
    let k = few (goal.at.returns c).After-min in
    let e : c.min.result ≡ min micros_most (length a.pool.now) = omega arith in
    let known : pool ≡ take micros_most a.pool.now = rw e (take_min micros_most a.pool.now) in
    let size : length c.labels.result ≡ micros_most = search rules in
    let pairs = c.deref.ensures.0 ∙ c.close_pairs-pairs.ensures in
    let dim = c.min-2 in
    let held = cut_take (length pool) (length a.pool.now) micros_most c.labels.result (omega (arith, length-take c.min.result a.pool.now)) size in
    record {
      labels_value = sym held ∙ rw (← known, ← dim.ensures) (grouped p a.t dim.result pool k _ pairs _ c.roots-rooted.ensures.roots_value _
          c.faded_weights-weights.ensures _ c.sums-sums.ensures _ c.reaching-counts.ensures _ c.labels.ensures);
      work = rw (← known, ← dim.ensures) (worked p a.t dim.result pool k _ pairs _ c.roots-rooted.ensures.work);
    }
