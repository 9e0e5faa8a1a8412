-- `labels` meets its contract. The loop's invariant: the labels written, and those that the places left will get, are the whole (`Labelling`). Assumes nothing.
use Prim.Native.Nat.{◌≤◌}
use mathlib.Core.Path.{◌≡◌, sym, ◌∙◌}
use native.Mathlib.Omega.{arith}
use mir.Syntax.{w64}
use mir.Facts.{to_z_pos}
use mir.Val.{to_z}
use lib.IntN.{pos}
use lib.ListN.{length, take, get_or, length-take}
use Rattle.union_find.specs.Forest.{places}
use Rattle.labels.proofs.Labelling.{place_some, place_none, labels_start, label_out, label_old, label_new, labels_end}
use Rattle.labels.proofs.label.labels.Goals.{After-min, then-inside, in-Some, in-None, else-inside}
use Rattle.labels.proofs.label.labels.Goals as goal

few : (c : goal.After-min) → length (take c.min.result c.args.mask.now) ≤ places
few c = omega (arith, length-take c.min.result c.args.mask.now)

pub loop-i-init : goal.loop-i-init
loop-i-init c = rw c.new-met.ensures (labels_start (take c.min.result c.args.mask.now) c.args.roots.now)

pub push-requires : goal.push-requires
push-requires c =
    let l = c.loop-i in
    (omega arith, omega (arith, l.invariant.few, l.invariant.within, c.loop-i-test.true, few (goal.at.push-requires c).After-min))

pub loop-i-preserved : goal.loop-i-preserved
loop-i-preserved c =
    let l = c.loop-i in
    let mask = take c.min.result c.args.mask.now in
    let roots = c.args.roots.now in
    let k = few (goal.at.loop-i-preserved c).After-min in
    let us = l.met.items in
    let root = get_or roots l.i 0 in
    elim c.if-inside.branch [
      | then-inside w ↦ elim w.match-place_in.branch [
        | in-Some x ↦
            let e = place_some root us x.in-Some.k (rw w.as_slice.ensures.value at (sym w.place_in.ensures ∙ x.in-Some.is)) in
            let stored : to_z w64 x.in-Some.k ≡ pos x.in-Some.k = to_z_pos w64 (omega (arith, e.1, l.invariant.few, l.invariant.within, k)) in
            rw (w.labels-is, w.met-is, x.met-is, x.k-is, stored)
            (label_old mask roots l.labels us l.i l.invariant (omega arith) k (omega arith) w.if-inside.true x.in-Some.k e.0 e.1)
        | in-None x ↦
            let e = place_none root us (rw w.as_slice.ensures.value at (sym w.place_in.ensures ∙ x.in-None.is)) in
            let last : w.match-place_in.k ≡ length us = omega (arith, x.k-is, x.len.ensures.value, x.push.ensures.len) in
            let stored : to_z w64 (length us) ≡ pos (length us) = to_z_pos w64 (omega (arith, l.invariant.few, l.invariant.within, k)) in
            rw (w.labels-is, w.met-is, x.met-is, x.push.ensures.items, last, stored)
            (label_new mask roots l.labels us l.i l.invariant (omega arith) k (omega arith) w.if-inside.true e)
      ]
      | else-inside w ↦ rw (w.labels-is, w.met-is)
          (label_out mask roots l.labels us l.i l.invariant (omega arith) k (omega arith) w.if-inside.false)
    ]

pub returns : goal.returns
returns c =
    let l = c.loop-i in
    labels_end c.args.mask.now c.min.result c.args.roots.now l.labels l.met.items l.i (omega arith) (omega arith) (omega (arith, length-take c.min.result c.args.mask.now)) l.invariant
