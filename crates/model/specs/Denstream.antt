-- Document 01: DenStream, a kind of stream; its calls. Definitions only.
use Rattle.std.specs.Prelude.{ℕ, ◌+◌, Bool, List, [], map, length, ℤ, Float}
use Rattle.model.specs.declared.micro.DenMicro.{DenMicro}
use Rattle.model.specs.Answers.{Said, Opening}
use Rattle.model.specs.Outcome.{Opened, Outcome}
use Rattle.model.specs.ReadOut.{LabelsRead, Statistics}
use Rattle.model.specs.Stream as stream
use Rattle.model.specs.DenState.{Settings, Params, Holdings, pooled, State, params_of, zeros, questions}
use Rattle.model.specs.DenInsert.{is_absorbed, placed, nearest_for, pruned}
use Rattle.model.specs.DenCluster.{potential_ones, joins_of, labels_of}
use Rattle.drift.specs.Monitor.{Nearest}

abbrev pub denstream : stream.Kind Settings Params Holdings
denstream =
    record {
      questions = questions;
      params_of = params_of;
      radius = λ p. p.eps;
      nothing = pooled [] [];
      zeros = zeros;
      dim = λ p. p.settings.dim;
      size = λ h. length h.potential + length h.outliers;
      is_absorbed = is_absorbed;
      placed = placed;
      nearest_for = nearest_for;
      period = λ p. p.tp;
      cleaned = pruned;
      labels_of = labels_of;
      pairs_due = joins_of;
      sought = potential_ones;
      radius2 = λ p. p.eps2;
      lambda = λ p. p.settings.lambda;
      bodies_of = λ h. map (λ (m : DenMicro). m.body) h.potential;
    }

abbrev pub asked : Settings → Opening
asked = stream.asked denstream

abbrev pub fresh : Settings → State
fresh = stream.fresh denstream

abbrev pub open_of : Settings → Opened State
open_of = stream.open_of denstream

abbrev pub tick_of : State → Nearest → State
tick_of = stream.tick_of denstream

abbrev pub taken_of : State → List Float → State
taken_of = stream.taken_of denstream

abbrev pub has_place : State → List Float → Bool
has_place = stream.has_place denstream

abbrev pub insert_of : State → List Float → Outcome State
insert_of = stream.insert_of denstream

abbrev pub cluster_of : State → State
cluster_of = stream.cluster_of denstream

abbrev pub finds_of : State → ℕ
finds_of = stream.finds_of denstream

abbrev pub steps_of : State → ℕ
steps_of = stream.steps_of denstream

abbrev pub predict_of : State → List Float → Said ℤ
predict_of = stream.predict_of denstream

abbrev pub labels_read_of : State → (lent : List ℤ) → LabelsRead
labels_read_of = stream.labels_read_of denstream

abbrev pub statistics_of : State → (centres weights radii : List Float) → Statistics
statistics_of = stream.statistics_of denstream
