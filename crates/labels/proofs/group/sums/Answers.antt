-- `sums` meets its contract. The loop's invariant: adding what is left to the sums gives the whole (`Summing`). Assumes nothing.
use Prim.Native.Nat.{◌<◌}
use native.Mathlib.Omega.{arith}
use lib.Ieee.{nan}
use lib.ListN.{length, get_or}
use Rattle.union_find.specs.Forest.{places}
use Rattle.std.proofs.lemmas.List.{length_push}
use Rattle.std.proofs.lemmas.Slice.Zip.{zip_turn, zip_end}
use Rattle.labels.proofs.Summing.{sums_start, sums_take, sums_pass, sums_end}
use Rattle.labels.proofs.group.sums.Goals as goal

pub loop-root-init : goal.loop-root-init
loop-root-init c = sums_start c.args.roots.now c.args.weights.now

pub loop-root-preserved-then-root-lt-PLACES : goal.loop-root-preserved-then-root-lt-PLACES
loop-root-preserved-then-root-lt-PLACES c =
    let l = c.loop-root in
    let t =
    zip_turn c.args.roots.now c.args.weights.now l.yielded c.into_iter-root-iterator.result l.root-iterator c.next.new.self c.next.result (cc) (cc) l.yielded_by
    (c.in-Some.field-0-0, c.in-Some.field-0-1) c.in-Some.is c.next.ensures.steps in
    let low : get_or c.args.roots.now (length l.yielded) 0 < places = omega (arith, t.2 0, c.if-root-lt-PLACES.true) in
    rw (length_push l.yielded (c.in-Some.field-0-0, c.in-Some.field-0-1), t.2 0, t.3 nan)
    (sums_take c.args.roots.now c.args.weights.now l.sums (length l.yielded) l.invariant t.0 t.1 low)

pub loop-root-preserved : goal.loop-root-preserved
loop-root-preserved c =
    let l = c.loop-root in
    let t =
    zip_turn c.args.roots.now c.args.weights.now l.yielded c.into_iter-root-iterator.result l.root-iterator c.next.new.self c.next.result (cc) (cc) l.yielded_by
    (c.in-Some.field-0-0, c.in-Some.field-0-1) c.in-Some.is c.next.ensures.steps in
    rw (length_push l.yielded (c.in-Some.field-0-0, c.in-Some.field-0-1))
    (sums_pass c.args.roots.now c.args.weights.now l.sums (length l.yielded) l.invariant t.0 t.1 (omega (arith, t.2 0, c.if-root-lt-PLACES.false)))

pub returns : goal.returns
returns c =
    let l = c.loop-root in
    sums_end c.args.roots.now c.args.weights.now l.sums (length l.yielded)
    (zip_end c.args.roots.now c.args.weights.now l.yielded c.into_iter-root-iterator.result l.root-iterator c.next.new.self c.next.result (cc) (cc) l.yielded_by
    c.in-None.is c.next.ensures.steps) l.invariant
