-- Document 01: DBSTREAM, a kind of stream; its calls. Definitions only.
use Rattle.std.specs.Prelude.{ℕ, Bool, List, [], map, length, ℤ, Float}
use Rattle.float.specs.Rounded.{◌⊗◌}
use Rattle.model.specs.declared.micro.DbMicro.{DbMicro}
use Rattle.model.specs.Answers.{Said, Opening}
use Rattle.model.specs.Outcome.{Opened, Outcome}
use Rattle.model.specs.ReadOut.{LabelsRead, Statistics}
use Rattle.model.specs.Stream as stream
use Rattle.model.specs.DbState.{Settings, Params, Holdings, State, params_of, zeros, questions}
use Rattle.model.specs.DbInsert.{is_absorbed, placed, nearest_for, cleanup}
use Rattle.model.specs.DbCluster.{strong_ones, joins_of, labels_of}
use Rattle.drift.specs.Monitor.{Nearest}

abbrev pub dbstream : stream.Kind Settings Params Holdings
dbstream =
    record {
      questions = questions;
      params_of = params_of;
      radius = λ p. p.r;
      nothing = record { next = 0; micros = []; links = [] };
      zeros = zeros;
      dim = λ p. p.settings.dim;
      size = λ h. length h.micros;
      is_absorbed = is_absorbed;
      placed = placed;
      nearest_for = nearest_for;
      period = λ p. p.t_gap;
      cleaned = cleanup;
      labels_of = labels_of;
      pairs_due = λ s. joins_of s s.held.links;
      sought = strong_ones;
      radius2 = λ p. p.settings.r ⊗ p.settings.r;
      lambda = λ p. p.settings.lambda;
      bodies_of = λ h. map (λ (m : DbMicro). m.body) h.micros;
    }

abbrev pub asked : Settings → Opening
asked = stream.asked dbstream

abbrev pub fresh : Settings → State
fresh = stream.fresh dbstream

abbrev pub open_of : Settings → Opened State
open_of = stream.open_of dbstream

abbrev pub tick_of : State → Nearest → State
tick_of = stream.tick_of dbstream

abbrev pub taken_of : State → List Float → State
taken_of = stream.taken_of dbstream

abbrev pub has_place : State → List Float → Bool
has_place = stream.has_place dbstream

abbrev pub insert_of : State → List Float → Outcome State
insert_of = stream.insert_of dbstream

abbrev pub cluster_of : State → State
cluster_of = stream.cluster_of dbstream

abbrev pub finds_of : State → ℕ
finds_of = stream.finds_of dbstream

abbrev pub steps_of : State → ℕ
steps_of = stream.steps_of dbstream

abbrev pub predict_of : State → List Float → Said ℤ
predict_of = stream.predict_of dbstream

abbrev pub labels_read_of : State → (lent : List ℤ) → LabelsRead
labels_read_of = stream.labels_read_of dbstream

abbrev pub statistics_of : State → (centres weights radii : List Float) → Statistics
statistics_of = stream.statistics_of dbstream
