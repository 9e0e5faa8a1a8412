use Rattle.std.proofs.Common.{◌≡◌, ◌++◌, take, drop}
use Rattle.model.specs.DbInsert.{absorbs}
use Rattle.db_neighbours.specs.Near.{absorb_near}
use Rattle.db_neighbours.proofs.absorption.absorb.Given as goal

abbrev pub invariant-loop-i : goal.invariant-loop-i
invariant-loop-i l =
    take l.i l.micros ++ absorb_near l.r2 (absorbs l.lambda l.t l.x) (drop l.i l.distances) (drop l.i l.micros)
    ≡ absorb_near l.r2 (absorbs l.lambda l.t l.x) l.distances l.initial.micros
