-- Demand 3, of both streams, for every list of inserts.
use Prim.Native.Nat.{ℕ, ◌+◌, ◌^◌, ◌≤◌}
use mathlib.Core.Path.{◌≡◌}
use mathlib.Core.Bool.{Bool}
use mathlib.Core.List.{List}
use native.Mathlib.Omega.{arith}
use lib.Ieee.{Float}
use lib.ListN.{length}
use Rattle.model.specs.Limits.{micros_most}
use Rattle.model.specs.Periods.{Period}
use Rattle.model.specs.Stream.{State, Kind, fresh}
use Rattle.model.proofs.Laws.Stream.{refused_nothing}
use Rattle.model.specs.DenState.{Settings}
use Rattle.model.specs.Dbstream as db
use Rattle.model.specs.Denstream as den
use Rattle.claims.specs.Whole.{OneRun, Calls}
use Rattle.claims.specs.DbClaims as db-claim
use Rattle.claims.specs.DenClaims as den-claim
use Rattle.claims.proofs.Runs.{clock_counts, run_params, drift_told, drift_heard, rang_told, opened_fresh}
use Rattle.claims.proofs.Early.{window_takes}
use Rattle.claims.proofs.Periods.{gap_whole, prune_whole, divides, due_is, need_exact}
use Rattle.claims.proofs.DbFresh as db-fresh
use Rattle.claims.proofs.DbFigures as db-figures
use Rattle.claims.proofs.DbRoom.{fits, micros_within}
use Rattle.claims.proofs.DbNumbers.{never_reused_lem}
use Rattle.claims.proofs.DbLabels.{labels_tell}
use Rattle.claims.proofs.DbFinds as db-finds
use Rattle.claims.proofs.DbTwins.{same_refusals, same_holdings}
use Rattle.claims.proofs.DbTogether.{stay_together}
use Rattle.claims.proofs.DenFresh as den-fresh
use Rattle.claims.proofs.DenFigures as den-figures
use Rattle.claims.proofs.DenFinds as den-finds
use Rattle.claims.proofs.DenLabels.{groups_told}
use Rattle.std.specs.Prelude.{None}

-- ---- of either stream
module _ {S P H : Type 0} (k : Kind S P H) (place : State P H → List Float → Bool) where
  calls : Calls k place
  calls = record { opened = opened_fresh k; refused = refused_nothing k place }

  -- which has nothing near where it is fresh, and whose period is whole
  one_run :
      ((p : S) (x : List Float) → k.nearest_for (fresh k p) x ≡ None) →
      {b : ℕ} →
      b ≤ 2 ^ 53 →
      (p : S) →
      Period b (k.period (k.params_of p)) →
      (xs : List (List Float)) →
      OneRun k place p xs
  one_run none {b} B p whole xs =
      record {
        params = run_params k place p xs;
        due = due_is B whole _ _ (clock_counts k place p xs);
        drift = drift_told k place p xs;
        report = drift_heard k place p xs;
        rang = rang_told k place p xs;
        window = window_takes k place none p xs;
      }

-- document 01, "A whole run", of DBSTREAM
pub dbstream : db-claim.Demand3
dbstream =
    record {
      one = λ p opens xs. record {
        run = one_run db.dbstream db.has_place db-fresh.none_near (omega arith) p (gap_whole p opens) xs;
        period = gap_whole p opens;
        labels = labels_tell (db-claim.after p xs) (db-fresh.from_fresh p xs).ascending (micros_within p xs);
        finds = db-finds.told (db-claim.after p xs) (db-fresh.from_fresh p xs).ascending (db-fresh.from_fresh p xs).links (micros_within p xs);
        holdings = db-fresh.from_fresh p xs;
        figures = db-figures.figures p xs;
        fits = fits p xs;
        never_reused = never_reused_lem p xs;
      };
      two = λ p q opens opens' laxer xs. record {
        refusals = same_refusals p q laxer xs;
        holdings = same_holdings p q laxer xs;
        labels = stay_together p q laxer xs;
      };
      calls = calls db.dbstream db.has_place;
    }

-- the potential ones alone are as few as both pools together
potential_few : (p : Settings) (xs : List (List Float)) → length (den-claim.after p xs).held.potential ≤ micros_most
potential_few p xs =
    let h : length (den-claim.after p xs).held.potential + length (den-claim.after p xs).held.outliers ≤ micros_most =
    (den-fresh.from_fresh p xs).places in
    omega arith

-- document 01, "A whole run", of DenStream
pub denstream : den-claim.Demand3
denstream =
    record {
      one = λ p opens xs. record {
        run = one_run den.denstream den.has_place den-fresh.none_near (omega arith) p (prune_whole p opens) xs;
        period = prune_whole p opens;
        divisor = divides p opens;
        needed = need_exact (prune_whole p opens);
        labels = groups_told (den-claim.after p xs) (potential_few p xs);
        finds = den-finds.told (den-claim.after p xs) (potential_few p xs);
        holdings = den-fresh.from_fresh p xs;
        figures = den-figures.figures p xs;
      };
      calls = calls den.denstream den.has_place;
    }
