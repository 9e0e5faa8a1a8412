-- `labels_of` meets its contract: what is cut keeps its meaning, and the roots of the strong ones are enough. Assumes nothing.
use Prim.Native.Nat.{◌≤◌, min}
use mathlib.Core.Path.{◌∙◌}
use native.Mathlib.Omega.{arith}
use lib.ListN.{length, take, length-take}
use Rattle.union_find.specs.Forest.{places}
use Rattle.model.specs.Limits.{micros_most, links_most}
use Rattle.db_joins.proofs.Labelling.{cut_same, worked, labelled}
use Rattle.db_joins.proofs.labels_of.Goals as goal

pub returns : goal.returns
returns c =
    let a = c.args in
    let strong = take c.min-3.result a.strong.now in
    let few : length strong ≤ places = omega (arith, length-take c.min-3.result a.strong.now) in
    let known = cut_same c.min-3.result (min (length a.micros.now) micros_most) a.strong.now (omega arith) in
    let links = cut_same c.min.result links_most a.links.now (omega arith) in
    let pairs = c.deref.ensures.0 ∙ c.pairs-pairs.ensures in
    let rooted = c.roots-rooted.ensures in
    record {
      labels_value = rw (← known, ← links, ← pairs) (labelled strong few _ _ _ rooted.roots_value c.labels.ensures);
      work = rw (← known, ← links, ← pairs) (worked strong few _ _ rooted.work);
    }
