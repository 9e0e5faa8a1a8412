-- The link by which a pair of creation numbers is searched for. Definition only.
use Rattle.std.specs.Prelude.{Float}
use Rattle.model.specs.declared.micro.MicroId.{MicroId}
use Rattle.model.specs.declared.link.Link.{Link}
use Rattle.model.specs.DbInsert.{absent, pair_of}

-- the link of two creation numbers before its first gain
abbrev pub key_of : (a b : MicroId) (t : Float) → Link
key_of a b t = absent (pair_of a b).0 (pair_of a b).1 t
