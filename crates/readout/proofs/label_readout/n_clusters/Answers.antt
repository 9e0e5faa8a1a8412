-- `n_clusters` meets its contract. Assumes nothing.
use Rattle.std.proofs.Common.{arith, refl, sym, ◌∙◌, true, false}
use Rattle.readout.proofs.Counting.{count_step, count_end}
use Rattle.readout.proofs.label_readout.n_clusters.Goals.{then-same_family+then-not-stands_in, else-same_family}
use Rattle.readout.proofs.label_readout.n_clusters.Goals.{else-same_family-via-then-same_family+else-not-stands_in}
use Rattle.readout.proofs.label_readout.n_clusters.Goals.{else-same_family-via-else-same_family}
use Rattle.readout.proofs.label_readout.n_clusters.Goals as goal

pub loop-i-preserved : goal.loop-i-preserved
loop-i-preserved c =
    let at = c.loop-i in
    let l = c.args.labels.now in
    let h = c.loop-i-test.true in
    let family = sym c.same_family.ensures in
    elim c.if-same_family.branch [
      | then-same_family+then-not-stands_in w ↦
          let s = count_step l at.i _ true false h (family ∙ w.if-same_family.true) (sym w.stands_in.ensures ∙ w.if-not-stands_in.true) in
          (omega (arith, at.invariant.0, w.n-is), omega (arith, at.invariant.1, w.n-is, s))
      | else-same_family w ↦ elim w.else-same_family.branch [
        | else-same_family-via-then-same_family+else-not-stands_in x ↦
            let s = count_step l at.i _ true true h (family ∙ x.if-same_family.true) (sym x.stands_in.ensures ∙ x.if-not-stands_in.false) in
            (omega (arith, at.invariant.0, w.n-is), omega (arith, at.invariant.1, w.n-is, s))
        | else-same_family-via-else-same_family x ↦
            let s = count_step l at.i _ false _ h (family ∙ x.if-same_family.false) refl in
            (omega (arith, at.invariant.0, w.n-is), omega (arith, at.invariant.1, w.n-is, s))
      ]
    ]

pub returns : goal.returns
returns c =
    let at = c.loop-i in omega (arith, at.invariant.1, count_end c.args.labels.now at.i c.loop-i-test.false)
