-- A stream's run in steps: clustered again and again, then read out. Assumes nothing.
use Rattle.std.specs.Prelude.{ℕ, zero, suc, ◌+◌, ◌-◌, ◌≤◌, ◌<◌, ◌≡◌, refl, List, Float}
use Rattle.std.proofs.Common.{arith, ap, ◌∙◌}
use Rattle.lists.specs.Laws.Maps.{map_length}
use Rattle.drift.specs.declared.DriftReport.{DriftReport}
use Rattle.drift.specs.Monitor.{report_of}
use Rattle.model.specs.declared.micro.DbMicro.{DbMicro}
use Rattle.model.specs.declared.micro.DenMicro.{DenMicro}
use Rattle.model.specs.DbState as db
use Rattle.model.specs.Dbstream.{dbstream}
use Rattle.model.specs.DenState as den
use Rattle.model.specs.Denstream.{denstream}
use Rattle.model.specs.Stream.{State, Kind, open_of, insert_of, cluster_of}
use Rattle.session.specs.Whole.{Session, session_of}
use Rattle.whole_runs.specs.declared.figures.Figures.{Figures}
use Rattle.whole_runs.specs.Told.{iterate, figures, figures_in, told, run_told}
use Rattle.whole_runs.specs.Streams.{dbstream_figures, dbstream_run, denstream_figures, denstream_run}

-- a loop that counts down to 0, towards `whole`: one turn, and its end
pub iterate_next :
    {A : Type 0} (f : A → A) (n : ℕ) (a b : A) {whole : A} → 0 < n → b ≡ f a → iterate f n a ≡ whole → iterate f (n - 1) b ≡ whole
unfolding iterate
iterate_next f zero a b h e w = absurd (omega arith)
iterate_next f (suc n) a b h e w = let m : suc n - 1 ≡ n = omega arith in rw (m, e) w

pub iterate_end : {A : Type 0} (f : A → A) (n : ℕ) (a : A) {whole : A} → n ≤ 0 → iterate f n a ≡ whole → a ≡ whole
unfolding iterate
iterate_end f zero a h w = w
iterate_end f (suc n) a h w = absurd (omega arith)

-- once more, after n times
pub iterate_more : {A : Type 0} (f : A → A) (n : ℕ) (a : A) → iterate f (n + 1) a ≡ f (iterate f n a)
unfolding iterate
iterate_more f zero a = refl
iterate_more f (suc n) a = let e : suc n + 1 ≡ suc (n + 1) = omega arith in rw e (iterate_more f n (f a))

pub same_figures :
    (number micros micros' families families' : ℕ) (report report' : DriftReport) →
    micros ≡ micros' →
    families ≡ families' →
    report ≡ report' →
    figures number micros families report ≡ figures number micros' families' report'
same_figures number micros micros' families families' report report' em ef er = rw (em, ef, er)

-- a stream read out by its kind, and as it is named
db_figures : (number : ℕ) (s : db.State) → figures_in dbstream number s ≡ dbstream_figures number s
db_figures number s =
    let report = report_of s.drift in same_figures number _ _ _ _ report report (map_length (λ (m : DbMicro). m.body) s.held.micros) refl refl

den_figures : (number : ℕ) (s : den.State) → figures_in denstream number s ≡ denstream_figures number s
den_figures number s =
    let report = report_of s.drift in same_figures number _ _ _ _ report report (map_length (λ (m : DenMicro). m.body) s.held.potential) refl refl

module _
    {S P H : Type 0} (k : Kind S P H) (read : ℕ → State P H → Figures) (same : (number : ℕ) (s : State P H) → figures_in k number s ≡ read number s) (p : S)
    (points : List (List Float)) (rounds : ℕ) (lent : List ℕ)
  where
    read_as : run_told k (figures_in k) p points rounds lent ≡ run_told k read p points rounds lent
    read_as =
        let run = session_of (insert_of k) (cluster_of k) (open_of k p) points lent in
        ap (λ (f : Figures). told f run.numbers) (same run.number (iterate (cluster_of k) rounds run.stream))

pub dbstream_told :
    (p : db.Settings) (points : List (List Float)) (rounds : ℕ) (lent : List ℕ) →
    run_told dbstream (figures_in dbstream) p points rounds lent ≡ dbstream_run p points rounds lent
dbstream_told = read_as dbstream dbstream_figures db_figures

pub denstream_told :
    (p : den.Settings) (points : List (List Float)) (rounds : ℕ) (lent : List ℕ) →
    run_told denstream (figures_in denstream) p points rounds lent ≡ denstream_run p points rounds lent
denstream_told = read_as denstream denstream_figures den_figures

-- `run` is what the session told, `last` its stream after the rounds
pub read_out :
    {S : Type 0} (cluster : S → S) (read : ℕ → S → Figures) (rounds : ℕ) (run whole : Session S) (last : S) (f : Figures) →
    run ≡ whole →
    last ≡ iterate cluster rounds run.stream →
    f ≡ read run.number last →
    told f run.numbers ≡ told (read whole.number (iterate cluster rounds whole.stream)) whole.numbers
read_out {S} cluster read rounds run whole last f e l r =
    ap (λ (g : Figures). told g run.numbers) (r ∙ ap (read run.number) l)
    ∙ ap (λ (w : Session S). told (read w.number (iterate cluster rounds w.stream)) w.numbers) e
