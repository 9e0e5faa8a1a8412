use Rattle.std.proofs.Common.{◌≡◌, ◌≤◌, ◌+◌, ◌++◌, map, length, take}
use lib.Ieee.{Float, le}
use Rattle.lists.specs.Retain.{retain}
use Rattle.model.specs.declared.micro.DbMicro.{DbMicro}
use Rattle.model.specs.Limits.{micros_most}
use Rattle.model.specs.DbInsert.{id_of}
use Rattle.db_neighbours.proofs.scan.near_ids.Given as goal

-- where d gives the distances, what was written and the rest of those near are all those near
abbrev pub invariant-loop-m : goal.invariant-loop-m
invariant-loop-m l =
    record {
      few : l.count + length l.m-iterator.a.rest.now ≤ length l.micros;
      places : length l.ids ≡ micros_most;
      measured : (d : DbMicro → Float) → l.distances ≡ map d l.micros → l.m-iterator.b.rest.now ≡ map d l.m-iterator.a.rest.now;
      whole : (d : DbMicro → Float) → l.distances ≡ map d l.micros →
          take l.count l.ids ++ map id_of (retain (λ (m : DbMicro). le (d m) l.r2) l.m-iterator.a.rest.now) ≡ map id_of (retain (λ (m : DbMicro). le (d m) l.r2) l.micros);
    }
