use Rattle.std.proofs.Common.{◌≡◌, ◌≤◌, take, drop}
use Rattle.model.specs.Limits.{links_most}
use Rattle.model.specs.DbInsert.{pairs_of}
use Rattle.db_gains.specs.Walk.{Ready, pairs_walked}
use Rattle.db_gains.proofs.walk.Walk.gain_rows.Given as goal

abbrev pub invariant-loop-i : goal.invariant-loop-i
invariant-loop-i l =
    record {
      ready : Ready l.lambda l.t l.self (take l.count l.links);
      few : l.count ≤ links_most;
      rest : drop l.count l.links ≡ drop l.count l.fn.links;
      left : pairs_walked l.lambda l.t (l.self, take l.count l.links) (pairs_of (drop l.i l.ids))
          ≡ pairs_walked l.lambda l.t (l.fn.self, take l.fn.count l.fn.links) (pairs_of l.ids);
    }
