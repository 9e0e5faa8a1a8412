-- `roots` meets its contract. The loop's invariant: of the places passed the roots that are sought are noted, every root stays, and with
-- the finds left these are all (`Seeking`). Assumes nothing.
use Prim.Native.Nat.{ℕ, ◌≤◌, ◌+◌, min}
use mathlib.Core.Path.{◌≡◌, ap, ◌∙◌}
use mathlib.Core.Bool.{Bool}
use mathlib.Core.List.{List}
use native.Mathlib.Omega.{arith}
use lib.ListN.{length, take, set, length-take}
use Rattle.std.proofs.lemmas.List.{take_min}
use Rattle.union_find.specs.declared.forest.Joins.{Joins}
use Rattle.union_find.specs.Forest.{places, new_of, join_all, roots_in}
use Rattle.union_find.specs.Steps.{find_steps, work_by}
use Rattle.union_find.proofs.Seeking.{Seeking, seek_start, seek_takes, seek_passes, seek_few, seek_ends}
use Rattle.union_find.proofs.forest.roots.Goals.{After-min, After-find-found, else-wanted, then-wanted}
use Rattle.union_find.proofs.forest.roots.Goals as goal

few : (c : goal.After-min) → length (take c.min.result c.args.sought.now) ≤ places
few c = omega (arith, length-take c.min.result c.args.sought.now)

-- the list that is gone through is the whole one, cut to the places
same : (c : goal.After-min) → take c.min.result c.args.sought.now ≡ take places c.args.sought.now
same c =
    let s = c.args.sought.now in
    let e : c.min.result ≡ min places (length s) = omega arith in
    rw e (take_min places s)

pub loop-i-init : goal.loop-i-init
loop-i-init c =
    let k = few (goal.at.loop-i-init c).After-min in
    seek_start (take c.min.result c.args.sought.now) c.args.pairs.now _ (omega arith) c.joined-forest.result c.joined-forest.ensures

-- after a find
next : (c : goal.After-find-found) →
    let l = c.loop-i in
    let f = c.find-found.result in
    Seeking (take c.min.result c.args.sought.now) c.args.pairs.now c.joined-forest.result.forest c.find-found.new.self
    (set l.roots l.i f.root) (l.work.finds + 1) (l.work.steps + f.steps) (l.i + 1)
next c =
    let l = c.loop-i in
    let f = c.find-found in
    seek_takes (take c.min.result c.args.sought.now) (few (goal.at.After-find-found c).After-min) c.args.pairs.now c.joined-forest.result.forest l.forest
    l.roots l.work.finds l.work.steps l.i l.invariant (omega arith) c.if-wanted.true f.result f.new.self f.ensures.found f.ensures.ranks

pub add-requires : goal.add-requires
add-requires c =
    let at = (goal.at.add-requires c).After-find-found in
    let s = seek_few (take c.min.result c.args.sought.now) (few (goal.at.After-find-found at).After-min) c.args.pairs.now _ _ _ _ _ _ (next at) in
    (omega arith, omega arith)

pub loop-i-preserved : goal.loop-i-preserved
loop-i-preserved c =
    let l = c.loop-i in
    let sought = take c.min.result c.args.sought.now in
    elim c.if-wanted.branch [
      | then-wanted w ↦ rw (w.forest-is, w.work-is, w.roots-is, w.add.ensures)
          (seek_takes sought (few (goal.at.loop-i-preserved c).After-min) c.args.pairs.now c.joined-forest.result.forest l.forest
          l.roots l.work.finds l.work.steps l.i l.invariant (omega arith) w.if-wanted.true w.find-found.result w.find-found.new.self
          w.find-found.ensures.found w.find-found.ensures.ranks)
      | else-wanted w ↦ rw (w.forest-is, w.work-is, w.roots-is)
          (seek_passes sought (few (goal.at.loop-i-preserved c).After-min) c.args.pairs.now c.joined-forest.result.forest l.forest
          l.roots l.work.finds l.work.steps l.i l.invariant (omega arith) w.if-wanted.false)
    ]

pub returns : goal.returns
returns c =
    let l = c.loop-i in
    let sought = take c.min.result c.args.sought.now in
    let k = few (goal.at.returns c).After-min in
    let all =
    seek_ends sought k c.args.pairs.now c.joined-forest.result.forest l.forest l.roots l.work.finds l.work.steps l.i l.invariant (omega arith)
    (ap (λ (m : Joins). m.forest) c.joined-forest.ensures ∙ ap (λ (n : ℕ). join_all n new_of c.args.pairs.now) (omega arith)) in
    let e = same (goal.at.returns c).After-min in
    record {
      roots_value = all.0 ∙ ap (λ (bs : List Bool). roots_in bs c.args.pairs.now) e;
      work = all.1 ∙ ap (λ (bs : List Bool). work_by (find_steps bs c.args.pairs.now)) e;
    }
