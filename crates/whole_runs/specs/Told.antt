-- A whole run of any stream in plain numbers. Definitions only.
use Rattle.std.specs.Prelude.{ℕ, zero, suc, List, length, Float}
use Rattle.drift.specs.declared.DriftReport.{DriftReport}
use Rattle.drift.specs.Monitor.{report_of}
use Rattle.model.specs.ReadOut.{clusters_in}
use Rattle.model.specs.Stream.{State, Kind, open_of, insert_of, cluster_of}
use Rattle.session.specs.Whole.{session_of}
use Rattle.whole_runs.specs.declared.figures.Figures.{Figures}

-- f, n times
unfoldable pub iterate : {A : Type 0} → (A → A) → ℕ → A → A
iterate f zero a = a
iterate f (suc n) a = iterate f n (f a)

-- the run's number, how many micro-clusters and families there are, and the drift report
abbrev pub figures : (number micros families : ℕ) → DriftReport → Figures
figures number micros families report = record {
  number = number;
  micros = micros;
  families = families;
  alarms = report.alarms;
  distance = report.distance;
  window = report.window;
}

-- what a stream says of itself, beside its run's number
abbrev pub figures_in : {S P H : Type 0} (k : Kind S P H) → ℕ → State P H → Figures
figures_in k number s = figures number (length (k.bodies_of s.held)) (clusters_in s.labels) (report_of s.drift)

-- the figures, and the slice of the inserts' numbers afterwards
pub record Told : Type 0 where
  pub figures : Figures
  pub numbers : List ℕ

abbrev pub told : Figures → List ℕ → Told
told f numbers = record { figures = f; numbers = numbers }

-- the run of `session`; its stream is clustered so many times more, and read out
abbrev pub run_told :
    {S P H : Type 0} (k : Kind S P H) (read : ℕ → State P H → Figures) → S → (points : List (List Float)) → (rounds : ℕ) → (lent : List ℕ) → Told
run_told k read p points rounds lent =
    let run = session_of (insert_of k) (cluster_of k) (open_of k p) points lent in
    told (read run.number (iterate (cluster_of k) rounds run.stream)) run.numbers
