-- What holds after every insert of a list, of a stream of any kind: its clock, its drift monitor, and what each point taken keeps.
use Prim.Native.Nat.{ℕ, ◌+◌}
use mathlib.Core.Path.{◌≡◌, refl, sym, ap, ◌∙◌, subst}
use mathlib.Core.Bool.{Bool, true, false, cond}
use mathlib.Core.List.{List, [], ◌∷◌, ◌++◌}
use native.Mathlib.Omega.{arith}
use lib.Ieee.{Float}
use Rattle.float.specs.Rounded.{whole}
use Rattle.adwin.specs.Window.{update_of}
use Rattle.drift.specs.Monitor.{Monitor, new_of, heard, observe_of, LastAlarm, Nearest}
use Rattle.drift.specs.History.{Seen, watch_of, Heard}
use Rattle.drift.specs.Laws.History.{heard_from_history}
use Rattle.model.specs.Answers.{is_done, Insertion, Opening}
use Rattle.model.specs.Outcome.{Outcome, opened}
use Rattle.model.specs.Run.{run_of, answers_of, one_if_done, accepted_in}
use Rattle.model.specs.Stream.{State, Kind, taking, fresh, open_of, tick_of, taken_of, insert_by}
use Rattle.model.proofs.Laws.Stream.{tick_params, tick_drift, insert_cases}
use Rattle.claims.specs.Clock.{Counts}
use Rattle.claims.specs.History.{seen_if, seen_from, Rang}
use Rattle.claims.specs.Whole.{Opens, after, told, seen}
use Rattle.claims.proofs.Clocks.{one_tick, starts, dated, dated_later}
use Rattle.std.specs.Prelude.{None, Some}

-- a list of inserts, then another
pub run_append :
    {S : Type 0} (insert : S → List Float → Outcome S) (xs ys : List (List Float)) (s : S) →
    run_of insert s (xs ++ ys) ≡ run_of insert (run_of insert s xs) ys
unfolding run_of
run_append insert [] ys s = refl
run_append insert (x ∷ xs) ys s = run_append insert xs ys (insert s x).stream

-- a refusal is not counted
uncounted : (a : Insertion) → is_done a ≡ false → one_if_done a ≡ 0
uncounted a h = ap (λ (b : Bool). cond b 1 0) h

-- an alarm stays, or rings at the clock
rang_later : (n : ℕ) (a : LastAlarm) → Rang n a → Rang (n + 1) a
rang_later n None r = tt
rang_later n (Some t) r = dated_later n t r

rang_heard : (n : ℕ) (m : Monitor) (x t : Float) → Counts n t → Rang n m.last_alarm → Rang (n + 1) (heard m (update_of m.window x) t).last_alarm
rang_heard n m x t c r = go (update_of m.window x).alarm
  where
    go : (b : Bool) → Rang (n + 1) (cond b (Some t) m.last_alarm)
    go true = dated n t c
    go false = rang_later n m.last_alarm r

rang_seen : (n : ℕ) (m : Monitor) (d : Nearest) (t : Float) → Counts n t → Rang n m.last_alarm → Rang (n + 1) (observe_of m d t).last_alarm
rang_seen n m None t c r = rang_later n m.last_alarm r
rang_seen n m (Some d2) t c r = rang_heard n m _ t c r

-- by any question whether there is a place for a point
module _ {S P H : Type 0} (k : Kind S P H) (place : State P H → List Float → Bool) where
  -- ---- the clock counts
  clock_insert :
      (n : ℕ) (s : State P H) (x : List Float) →
      Counts n s.t →
      Counts (n + one_if_done (insert_by k place s x).answer) (insert_by k place s x).stream.t
  unfolding tick_of
  clock_insert n s x c =
      insert_cases k place s x (λ (r : Outcome (State P H)). Counts (n + one_if_done r.answer) r.stream.t)
      (λ a h. subst (λ (j : ℕ). Counts j s.t) (omega (arith, uncounted a h)) c) (λ l e. one_tick n s.t c l)

  -- ---- what each point taken keeps, after n accepted inserts
  module _ (I : ℕ → State P H → Type 0)
      (keeps : (n : ℕ) (s : State P H) (x : List Float) → Counts n s.t → place s x ≡ true → I n s → I (n + 1) (taken_of k s x)) where
    one_keeps :
        (n : ℕ) (s : State P H) (x : List Float) →
        Counts n s.t →
        I n s →
        I (n + one_if_done (insert_by k place s x).answer) (insert_by k place s x).stream
    one_keeps n s x c i =
        insert_cases k place s x (λ (r : Outcome (State P H)). I (n + one_if_done r.answer) r.stream)
        (λ a h. subst (λ (j : ℕ). I j s) (omega (arith, uncounted a h)) i) (λ l e. keeps n s x c e i)

    -- through a list of inserts, from n accepted on
    pub run_keeps :
        (xs : List (List Float)) (n : ℕ) (s : State P H) →
        Counts n s.t →
        I n s →
        let m = n + accepted_in (answers_of (insert_by k place) s xs) in Counts m (run_of (insert_by k place) s xs).t × I m (run_of (insert_by k place) s xs)
    unfolding run_of answers_of
    run_keeps [] n s c i = let e : n ≡ n + 0 = omega arith in (subst (λ (j : ℕ). Counts j s.t) e c, subst (λ (j : ℕ). I j s) e i)
    run_keeps (x ∷ xs) n s c i =
        let a : ℕ = one_if_done (insert_by k place s x).answer in
        let j : ℕ = accepted_in (answers_of (insert_by k place) (insert_by k place s x).stream xs) in
        let u : State P H = run_of (insert_by k place) (insert_by k place s x).stream xs in
        let e : (n + a) + j ≡ n + (a + j) = omega arith in
        subst (λ (m : ℕ). Counts m u.t × I m u) e (run_keeps xs (n + a) (insert_by k place s x).stream (clock_insert n s x c) (one_keeps n s x c i))

    -- from a fresh stream
    pub always : (p : S) → I 0 (fresh k p) → (xs : List (List Float)) → I (accepted_in (told k place p xs)) (after k place p xs)
    always p i xs = subst (λ (j : ℕ). I j (after k place p xs)) (omega arith) (run_keeps xs 0 (fresh k p) starts i).1

  pub clock_counts : (p : S) (xs : List (List Float)) → Counts (accepted_in (told k place p xs)) (after k place p xs).t
  clock_counts p xs =
      subst (λ (j : ℕ). Counts j (after k place p xs).t) (omega arith) (run_keeps (λ n s. Unit {0}) (λ n s x c e i. tt) xs 0 (fresh k p) starts tt).0

  -- ---- no insert changes the settings
  pub run_params : (p : S) (xs : List (List Float)) → (after k place p xs).params ≡ k.params_of p
  run_params p xs =
      always (λ (n : ℕ) (s : State P H). s.params ≡ k.params_of p) (λ n s x c e i. tick_params k (taking s (k.placed s x)) (k.nearest_for s x) ∙ i)
      p refl xs

  -- ---- the drift monitor is the fresh one after the observations of the run
  watched :
      (n : ℕ) (s : State P H) (x : List Float) →
      Counts n s.t →
      (l : List Seen) →
      watch_of (insert_by k place s x).stream.drift l
      ≡ watch_of s.drift (seen_if (insert_by k place s x).answer (record { nearest = k.nearest_for s x; tick = whole n }) l)
  unfolding watch_of tick_of
  watched n s x c l =
      insert_cases k place s x
      (λ (r : Outcome (State P H)). watch_of r.stream.drift l
      ≡ watch_of s.drift (seen_if r.answer (record { nearest = k.nearest_for s x; tick = whole n }) l))
      (λ a h. ap (λ (b : Bool). watch_of s.drift (cond b (record { nearest = k.nearest_for s x; tick = whole n } ∷ l) l)) (sym h))
      (λ q e. ap (λ (t : Float). watch_of (observe_of s.drift (k.nearest_for s x) t) l) c.exact.same)

  watches :
      (xs : List (List Float)) (n : ℕ) (s : State P H) →
      Counts n s.t →
      (run_of (insert_by k place) s xs).drift ≡ watch_of s.drift (seen_from (insert_by k place) k.nearest_for n s xs)
  unfolding run_of seen_from watch_of
  watches [] n s c = refl
  watches (x ∷ xs) n s c =
      watches xs (n + one_if_done (insert_by k place s x).answer) (insert_by k place s x).stream (clock_insert n s x c)
      ∙ watched n s x c (seen_from (insert_by k place) k.nearest_for (n + one_if_done (insert_by k place s x).answer) (insert_by k place s x).stream xs)

  pub drift_told : (p : S) (xs : List (List Float)) → (after k place p xs).drift ≡ watch_of (new_of (k.radius p)) (seen k place p xs)
  drift_told p xs = watches xs 0 (fresh k p) starts

  -- so its report is told from them
  pub drift_heard : (p : S) (xs : List (List Float)) → Heard (k.radius p) (seen k place p xs) (after k place p xs).drift
  drift_heard p xs = subst (Heard (k.radius p) (seen k place p xs)) (sym (drift_told p xs)) (heard_from_history (k.radius p) (seen k place p xs))

  -- ---- the last alarm rang at the tick of an accepted insert
  pub rang_told : (p : S) (xs : List (List Float)) → Rang (accepted_in (told k place p xs)) (after k place p xs).drift.last_alarm
  rang_told p xs = always (λ (n : ℕ) (s : State P H). Rang n s.drift.last_alarm) rung p tt xs
    where
      rung :
          (n : ℕ) (s : State P H) (x : List Float) →
          Counts n s.t →
          place s x ≡ true →
          Rang n s.drift.last_alarm →
          Rang (n + 1) (taken_of k s x).drift.last_alarm
      rung n s x c e r =
          subst (λ (m : Monitor). Rang (n + 1) m.last_alarm) (sym (tick_drift k (taking s (k.placed s x)) (k.nearest_for s x)))
          (rang_seen n s.drift (k.nearest_for s x) s.t c r)

-- ---- "Fresh means as an accepted opening gives it"
pub opened_fresh : {S P H : Type 0} (k : Kind S P H) (p : S) → Opens k p → (open_of k p).stream ≡ fresh k p
opened_fresh k p e = ap (λ (a : Opening). (opened a (fresh k p) (fresh k k.zeros)).stream) e
