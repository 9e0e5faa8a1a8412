use mathlib.Core.List.{map}
use Rattle.model.specs.DbInsert.{id_of}
use Rattle.db_joins.proofs.Pairing.{Pairing}
use Rattle.db_joins.proofs.Joining.pairs.Given as goal

abbrev pub invariant-loop-l : goal.invariant-loop-l
invariant-loop-l l = Pairing (map id_of l.self.micros.now) l.self.strong.now l.self.lambda l.self.t l.self.dense l.links l.pairs.items l.l-index
