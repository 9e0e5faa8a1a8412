-- `ids_of` meets its contract. Assumes nothing.
use Rattle.std.proofs.Common.{rules}
use Rattle.model.specs.DbInsert.{id_of}
use Rattle.db_micro.proofs.parts.ids_of.Goals as goal

pub returns : goal.returns
returns c = c.each.ensures id_of (λ m v k. search rules)
