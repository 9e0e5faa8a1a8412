-- Demand 3 of a whole run of a DBSTREAM in code. Definition only.
use Rattle.std.specs.Prelude.{List, Float}
use Rattle.model.specs.DbState.{Settings, State}
use Rattle.model.specs.Dbstream.{dbstream}
use Rattle.claims.specs.DbClaims.{LabelsTellFamilies, OneStream}
use Rattle.session.specs.Runs as runs

-- demand 3 of a stream that was not refused
abbrev pub RunTold : Settings → List (List Float) → State → Type 0
RunTold = runs.RunTold dbstream LabelsTellFamilies OneStream
