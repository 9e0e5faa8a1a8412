-- Document 01, "A whole run", of a stream of any kind. Definitions and statements only; proofs/Theorem proves them of both streams.
use Rattle.std.specs.Prelude.{◌≡◌, ◌≢◌, Bool, List, Float, Ok}
use Rattle.std.specs.Float.{binary64}
use Rattle.std.specs.Float.Ieee.{eq, rem}
use Rattle.float.specs.Rounded.{nought}
use Rattle.adwin.specs.Window.{update_of}
use Rattle.drift.specs.Monitor.{new_of}
use Rattle.drift.specs.History.{Seen, watch_of, Heard}
use Rattle.model.specs.Fading.{is_multiple}
use Rattle.model.specs.Run.{run_of, answers_of, accepted_in}
use Rattle.model.specs.Stream.{State, Kind, asked, fresh, open_of, insert_by}
use Rattle.claims.specs.History.{seen_from, Rang}
use Rattle.model.specs.Answers.{Insertion}

-- an opening with these settings is accepted
abbrev pub Opens : {S P H : Type 0} → Kind S P H → S → Type 0
Opens k p = asked k p ≡ Ok tt

-- by any question whether there is a place for a point
module _ {S P H : Type 0} (k : Kind S P H) (place : State P H → List Float → Bool) where
  -- the stream after the opening and every insert of the list, "refused or not"
  abbrev pub after : S → List (List Float) → State P H
  after p xs = run_of (insert_by k place) (fresh k p) xs

  -- what each insert was answered
  abbrev pub told : S → List (List Float) → List Insertion
  told p xs = answers_of (insert_by k place) (fresh k p) xs

  -- what the drift monitor observed
  abbrev pub seen : S → List (List Float) → List Seen
  seen p xs = seen_from (insert_by k place) k.nearest_for 0 (fresh k p) xs

  -- after any list of inserts
  pub record OneRun (p : S) (xs : List (List Float)) : Type 0 where
    -- the settings and what follows from them are those of the opening: so the labels go by its thresholds
    pub params : (after p xs).params ≡ k.params_of p
    -- a cleanup is due exactly where the remainder of the doubles is 0, as in the Rust: `t % t_gap == 0.0`, `t % tp == 0.0`
    pub due : is_multiple (after p xs).t (k.period (k.params_of p)) ≡ eq (rem binary64 (after p xs).t (k.period (k.params_of p))) nought
    -- the drift monitor is the fresh one after these observations
    pub drift : (after p xs).drift ≡ watch_of (new_of (k.radius p)) (seen p xs)
    -- so its report is told from them: the alarms, the last one's tick, and the window of the values seen
    pub report : Heard (k.radius p) (seen p xs) (after p xs).drift
    -- and the last alarm, if there is one, rang at the tick of an accepted insert, exactly
    pub rang : Rang (accepted_in (told p xs)) (after p xs).drift.last_alarm
    -- and its window has room for any value: no insert meets the window's refusal 8
    pub window : (v : Float) → (update_of (after p xs).drift.window v).refusal ≡ 0

  -- of single calls
  pub record Calls : Type 0 where
    -- "Fresh means as an accepted opening gives it"
    pub opened : (p : S) → Opens k p → (open_of k p).stream ≡ fresh k p
    -- "a refused insert changes nothing"
    pub refused : (s : State P H) (x : List Float) → (insert_by k place s x).answer ≢ Ok tt → (insert_by k place s x).stream ≡ s
