-- `pairs` meets its contract. The loop's invariant: the pairs noted, and those of the links left, are all (`Pairing`). Assumes nothing.
use Rattle.std.proofs.Common.{arith, sym, ◌∙◌, map}
use Rattle.model.specs.DbInsert.{id_of}
use Rattle.db_joins.proofs.Pairing.{pair_start, pair_taken, pair_passed, pair_end}
use Rattle.db_joins.proofs.Joining.pairs.Goals.{in-Some, in_default}
use Rattle.db_joins.proofs.Joining.pairs.Goals as goal

pub loop-l-init : goal.loop-l-init
loop-l-init c =
    let s = c.args.self.now in
    pair_start (map id_of s.micros.now) s.strong.now s.lambda s.t s.dense c.args.links.now c.new-pairs.result.items c.new-pairs.ensures

pub push-requires : goal.push-requires
push-requires c = omega (arith, c.loop-l.invariant.few, c.loop-l-test.true, c.requires.few)

pub loop-l-preserved : goal.loop-l-preserved
loop-l-preserved c =
    let s = c.args.self.now in
    let k = c.loop-l in
    let h = c.loop-l-test.true in
    elim c.match-ends.branch [
      | in-Some w ↦ rw (w.pairs-is, w.push.ensures.items) (pair_taken (map id_of s.micros.now) s.strong.now s.lambda s.t s.dense c.args.links.now k.pairs.items k.l-index k.invariant _ h _
          (sym w.in-Some.is ∙ c.ends.ensures))
      | in_default w ↦ rw w.pairs-is (pair_passed (map id_of s.micros.now) s.strong.now s.lambda s.t s.dense c.args.links.now k.pairs.items k.l-index k.invariant _ h
          (sym w.in_default.is ∙ c.ends.ensures))
    ]

pub returns : goal.returns
returns c =
    let s = c.args.self.now in
    let k = c.loop-l in
    pair_end (map id_of s.micros.now) s.strong.now s.lambda s.t s.dense c.args.links.now k.pairs.items k.l-index (omega arith) k.invariant
