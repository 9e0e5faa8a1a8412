use Rattle.model.specs.Stream.{insert_of}
use Rattle.session.specs.Laws.Going.{Going}
use Rattle.session.proofs.whole.inserts.Given as goal

abbrev pub invariant-loop-i : goal.invariant-loop-i
invariant-loop-i g l =
    let k = g.S.Stream in
    Going (insert_of k.kind) l.lengths l.values (k.view l.initial.s) (k.view l.s) l.initial.numbers l.numbers l.i l.rest
