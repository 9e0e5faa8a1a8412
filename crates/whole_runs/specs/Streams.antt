-- A whole run of each stream in plain numbers. Definitions only.
use Rattle.std.specs.Prelude.{ℕ, List, Float, length}
use Rattle.drift.specs.Monitor.{report_of}
use Rattle.model.specs.DbState as db
use Rattle.model.specs.Dbstream.{dbstream}
use Rattle.model.specs.DenState as den
use Rattle.model.specs.Denstream.{denstream}
use Rattle.model.specs.ReadOut.{clusters_in}
use Rattle.whole_runs.specs.declared.figures.Figures.{Figures}
use Rattle.whole_runs.specs.Told.{Told, figures, run_told}

abbrev pub dbstream_figures : ℕ → db.State → Figures
dbstream_figures number s = figures number (length s.held.micros) (clusters_in s.labels) (report_of s.drift)

abbrev pub dbstream_run : db.Settings → (points : List (List Float)) → (rounds : ℕ) → (lent : List ℕ) → Told
dbstream_run = run_told dbstream dbstream_figures

abbrev pub denstream_figures : ℕ → den.State → Figures
denstream_figures number s = figures number (length s.held.potential) (clusters_in s.labels) (report_of s.drift)

abbrev pub denstream_run : den.Settings → (points : List (List Float)) → (rounds : ℕ) → (lent : List ℕ) → Told
denstream_run = run_told denstream denstream_figures
