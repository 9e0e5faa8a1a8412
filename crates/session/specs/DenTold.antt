-- Demand 3 of a whole run of a DenStream in code. Definition only.
use Rattle.std.specs.Prelude.{List, Float}
use Rattle.model.specs.DenState.{Settings, State}
use Rattle.model.specs.Denstream.{denstream}
use Rattle.claims.specs.DenClaims.{LabelsTellGroups, OneStream}
use Rattle.session.specs.Runs as runs

-- demand 3 of a stream that was not refused
abbrev pub RunTold : Settings → List (List Float) → State → Type 0
RunTold = runs.RunTold denstream LabelsTellGroups OneStream
