-- Demand 3 of a whole run in code, of any stream, from the run's equation. Assumes nothing.
use Rattle.std.specs.Prelude.{ℕ, ◌≡◌, List, Float}
use Rattle.std.proofs.Common.{sym, subst}
use Rattle.model.specs.Stream.{State, Kind, asked, fresh, open_of, has_place, insert_of, cluster_of}
use Rattle.claims.specs.Whole.{Opens, after}
use Rattle.session.specs.Points.{points_of}
use Rattle.session.specs.Whole.{Session, session_of}
use Rattle.session.specs.Runs as runs
use Rattle.session.specs.Laws.Cases.{run_by}

module _ {S P H : Type 0} (k : Kind S P H) (Labels : State P H → Type 0) (One : S → List (List Float) → Type 0) where
  pub run_told :
      ((p : S) → Opens k p → (xs : List (List Float)) → One p xs × Labels (cluster_of k (after k (has_place k) p xs))) →
      (p : S) (lengths : List ℕ) (values : List Float) (lent : List ℕ) (o : Session (State P H)) →
      o ≡ session_of (insert_of k) (cluster_of k) (open_of k p) (points_of lengths values) lent →
      o.number ≡ 0 → runs.RunTold k Labels One p (points_of lengths values) o.stream
  run_told demand p lengths values lent o e z =
      let w = run_by (insert_of k) (cluster_of k) (asked k p) (fresh k p) (fresh k k.zeros) lengths values lent o e z in
      let d = demand p w.0 (points_of lengths values) in
      record { opens = w.0; labels = subst Labels (sym w.1) d.1; stream = w.1; one = d.0 }
