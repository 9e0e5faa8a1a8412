-- `Adwin::push_bucket` meets its contract. Assumes nothing.
use Rattle.std.proofs.Common.{◌≡◌, ◌-◌, length, arith, length-set}
use Rattle.adwin.specs.Settings.{places}
use Rattle.adwin.proofs.Walk.{walk_starts, walk_goes_on, walk_merges, at_other, at_oldest, walk_ends}
use Rattle.adwin.proofs.Adwin.push_bucket.Goals.{Start}
use Rattle.adwin.proofs.Adwin.push_bucket.Goals as goal

buckets_room : (c : goal.Start) → length c.args.self.now.buckets ≡ places
buckets_room c = omega arith

classes_room : (c : goal.Start) → length c.args.self.now.classes ≡ places
classes_room c = omega arith

pub loop-i-init : goal.loop-i-init
loop-i-init c =
    let s = (goal.at.loop-i-init c).Start in
    walk_starts _ _ (simp length-set (buckets_room s)) (simp length-set (classes_room s)) (omega arith) (omega arith)

pub returns-then-self-i : goal.returns-then-self-i
returns-then-self-i c =
    let l = c.loop-i in
    let s = (goal.at.returns-then-self-i c).Start in (
      l.invariant.room,
      walk_ends c.args.self.now c.args.new l.self l.i l.k (buckets_room s) (classes_room s) c.requires l.invariant
          (at_other _ _ _ _ _ l.invariant (l.i - 1) (omega arith) c.if-self-i.true),
    )

pub loop-i-preserved-then-k-gt-CAP : goal.loop-i-preserved-then-k-gt-CAP
loop-i-preserved-then-k-gt-CAP c =
    let l = c.loop-i in
    walk_merges _ _ _ _ _ l.invariant (l.i - 1) (omega arith) c.if-self-i.false c.if-k-gt-CAP.true
    c.merge.new.self c.merge.ensures.0 c.merge.ensures.1

pub loop-i-preserved : goal.loop-i-preserved
loop-i-preserved c =
    let l = c.loop-i in
    walk_goes_on _ _ _ _ _ l.invariant (l.i - 1) (omega arith) c.if-self-i.false c.if-k-gt-CAP.false

pub returns : goal.returns
returns c =
    let l = c.loop-i in
    let s = (goal.at.returns c).Start in (
      l.invariant.room,
      walk_ends c.args.self.now c.args.new l.self l.i l.k (buckets_room s) (classes_room s) c.requires l.invariant
          (at_oldest _ _ _ _ _ l.invariant (omega arith)),
    )
