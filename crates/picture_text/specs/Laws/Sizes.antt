-- The text of `picture` is never cut. Assumes nothing.
use Rattle.std.specs.Prelude.{ℕ, ◌+◌, ◌%◌, ◌^◌, ◌≤◌, ◌<◌, min, List, [], ◌∷◌, eqb, negsuc, length, replicate, Float, None, Some, Ok, Err}
use Rattle.std.proofs.Common.{arith}
use Rattle.float.specs.Rounded.{◌⊘◌}
use Rattle.sqrt.specs.Root.{sqrt_of}
use Rattle.adwin.specs.Window.{update_of}
use Rattle.drift.specs.Monitor.{Monitor, observe_of, report_of, Nearest}
use Rattle.model.specs.Answers.{opening_number, is_open, insertion_number, is_done, Insertion, Opening}
use Rattle.model.specs.Outcome.{Opened, Outcome}
use Rattle.model.specs.Limits.{micros_most}
use Rattle.model.specs.Stream.{tick_of, taken_of, fresh, insert_by}
use Rattle.model.specs.DbState.{State, Settings}
use Rattle.model.specs.Dbstream.{dbstream, open_of, insert_of, cluster_of, labels_read_of}
use Rattle.text.specs.Ascii.{ascii}
use Rattle.text.specs.Text.{room, Within}
use Rattle.text.specs.Laws.Sizes.{of_either, piece, wider, beside, either, number_within}
use Rattle.input_session.specs.Input.{settings_in, points_in, is_whole}
use Rattle.input_session.specs.Session.{insert_all, Ran, ran, inserted_ran, opened_ran, ran_of}
use Rattle.picture_lines.specs.Laws.Sizes.{page_within}
use Rattle.picture_text.specs.Picture.{figures_of, drawn_of, picture_text}
use Rattle.model.specs.declared.answers.OpenError.TheVariants.{Dim, Radius, Lambda, Share, Weight, BetaMu}
use Rattle.model.specs.declared.answers.InsertError.TheVariants.{Shape, ClockAtLimit, NoPlace}

-- the alarms are a number of 64 bits: "The count is a u64"
abbrev Counted : State → Type 0
Counted s = s.drift.alarms < 2 ^ 64

observed : (m : Monitor) (d : Nearest) (t : Float) → m.alarms < 2 ^ 64 → (observe_of m d t).alarms < 2 ^ 64
observed m None t h = h
observed m (Some d2) t h =
    let w : (m.alarms + 1) % 2 ^ 64 < 2 ^ 64 = omega arith in
    of_either (λ (n : ℕ). n < 2 ^ 64) (update_of m.window (sqrt_of d2 ⊘ m.radius)).alarm ((m.alarms + 1) % 2 ^ 64) m.alarms w h

inserted : (s : State) (x : List Float) → Counted s → Counted (insert_of s x).stream
unfolding insert_by tick_of
inserted s x h =
    of_either Counted (is_done (insert_of s x).answer) (taken_of dbstream s x) s (observed s.drift (dbstream.nearest_for s x) s.t h) h

all_inserted : (xs : List (List Float)) (s : State) → Counted s → Counted (insert_all s xs).stream
unfolding insert_all
all_inserted [] s h = h
all_inserted (x ∷ xs) s h =
    of_either (λ (o : Outcome State). Counted o.stream) (is_done (insert_of s x).answer) (insert_all (insert_of s x).stream xs) (insert_of s x)
    (all_inserted xs (insert_of s x).stream (inserted s x h))
    (inserted s x h)

is_opened : (p : Settings) → Counted (open_of p).stream
is_opened p =
    let z : 0 < 2 ^ 64 = omega arith in
    of_either Counted (is_open (open_of p).answer) (fresh dbstream p) (fresh dbstream dbstream.zeros) z z

-- and so is the number of a refusal
opening_number_lem : (a : Opening) → opening_number a < 2 ^ 64
opening_number_lem (Ok _) = omega arith
opening_number_lem (Err Dim) = omega arith
opening_number_lem (Err Radius) = omega arith
opening_number_lem (Err Lambda) = omega arith
opening_number_lem (Err Share) = omega arith
opening_number_lem (Err Weight) = omega arith
opening_number_lem (Err BetaMu) = omega arith

insertion_number_lem : (a : Insertion) → insertion_number a < 2 ^ 64
insertion_number_lem (Ok _) = omega arith
insertion_number_lem (Err (Shape e)) = omega arith
insertion_number_lem (Err ClockAtLimit) = omega arith
insertion_number_lem (Err NoPlace) = omega arith

record Numbered (r : Ran) : Type 0 where
  number : r.number < 2 ^ 64
  alarms : Counted r.stream

opened : (o : Opened State) (points : List (List Float)) → Counted o.stream → Numbered (opened_ran o points)
opened o points h =
    of_either Numbered (is_open o.answer) (inserted_ran (insert_all o.stream points)) (ran (opening_number o.answer) o.stream)
    (record { number = insertion_number_lem (insert_all o.stream points).answer; alarms = all_inserted points o.stream h })
    (record { number = opening_number_lem o.answer; alarms = h })

numbered : (bytes : List ℕ) → Numbered (ran_of bytes)
unfolding ran_of
numbered bytes =
    let e : 11 < 2 ^ 64 = omega arith in
    let h : Counted (open_of (settings_in bytes)).stream = is_opened (settings_in bytes) in
    of_either Numbered (is_whole bytes) (opened_ran (open_of (settings_in bytes)) (points_in bytes)) (ran 11 (open_of (settings_in bytes)).stream)
    (opened (open_of (settings_in bytes)) (points_in bytes) h)
    (record { number = e; alarms = h })

drawn_within : (s : State) → Counted s → Within (drawn_of s) room
unfolding drawn_of
drawn_within s h =
    let few : min (length s.held.micros) micros_most ≤ micros_most = omega arith in
    page_within (min (length s.held.micros) micros_most) (figures_of (cluster_of s)).centres (figures_of (cluster_of s)).weights
    (labels_read_of (cluster_of s) (replicate micros_most (negsuc 0))).labels
    (report_of s.drift).alarms few h

-- the whole text of every input finds room
pub never_cut : (bytes : List ℕ) → Within (picture_text bytes) room
unfolding picture_text
never_cut bytes =
    let n : Numbered (ran_of bytes) = numbered bytes in
    let d : 22 ≤ room = omega arith in
    let r : 8 + 20 + 1 ≤ room = omega arith in
    either (eqb (ran_of bytes).number 0)
    (either (eqb (ran_of bytes).stream.params.settings.dim 3) (drawn_within (ran_of bytes).stream n.alarms)
    (wider d (piece (ascii "a picture needs dim 3\n"))))
    (wider r (beside (beside (piece (ascii "refused ")) (number_within (ran_of bytes).number n.number)) (piece (ascii "\n"))))
