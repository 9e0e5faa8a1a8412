-- Document 01, "A whole run": demand 3, a single claim about every list of inserts, of both streams.
use Rattle.claims.specs.DbClaims as db
use Rattle.claims.specs.DenClaims as den
use Rattle.claims.proofs.Theorem as theorem

pub record Demand3 : Type 0 where
  -- labels by chains over the held links, two streams compared, holdings worked out from the list, the drift report from the history
  pub dbstream : db.Demand3
  -- labels by groups of centres, holdings worked out from the list, the drift report from the history
  pub denstream : den.Demand3

pub demand_3 : Demand3
demand_3 = record { dbstream = theorem.dbstream; denstream = theorem.denstream }
