use Rattle.std.proofs.Common.{◌≡◌, ◌≤◌, map, take, drop}
use Rattle.model.specs.Limits.{links_most}
use Rattle.model.specs.DbInsert.{pair_of}
use Rattle.db_gains.specs.Walk.{Ready, pairs_walked}
use Rattle.db_gains.proofs.walk.Walk.gain_row.Given as goal

abbrev pub invariant-loop-b : goal.invariant-loop-b
invariant-loop-b l =
    record {
      ready : Ready l.lambda l.t l.self (take l.count l.links);
      more : l.fn.count ≤ l.count;
      few : l.count ≤ links_most;
      rest : drop l.count l.links ≡ drop l.count l.fn.links;
      left : pairs_walked l.lambda l.t (l.self, take l.count l.links) (map (pair_of l.a) (drop l.b-index l.others))
          ≡ pairs_walked l.lambda l.t (l.fn.self, take l.fn.count l.fn.links) (map (pair_of l.a) l.others);
    }
