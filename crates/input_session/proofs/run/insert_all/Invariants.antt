use Rattle.std.specs.Prelude.{◌≡◌, ◌*◌, ◌/◌, length}
use Rattle.dbstream.specs.View.{view}
use Rattle.input_session.specs.Input.{points_from}
use Rattle.input_session.specs.Session.{insert_all}
use Rattle.input_session.proofs.run.insert_all.Given as goal

abbrev pub invariant-loop-bytes : goal.invariant-loop-bytes
invariant-loop-bytes l =
    let rest = l.bytes-iterator.rest.now in
    (l.bytes-iterator.size ≡ l.dim * 8)
    × (insert_all (view l.stream) (points_from (length rest / (l.dim * 8)) l.dim rest 0)
    ≡ insert_all (view l.initial.stream) (points_from (length l.points / (l.dim * 8)) l.dim l.points 0))
