-- The window's laws, for every list of values from a fresh window. Document 01, Drift: "All these are told from the history."
use Rattle.std.specs.Prelude.{◌≡◌, ℕ, ◌+◌, ◌-◌, ◌*◌, ◌/◌, ◌%◌, ◌^◌, ◌<◌, ◌≤◌, min, true, false, not, List, [], ◌∷◌, length, ◌≢◌, refl, Float}
use Rattle.std.proofs.Common.{sym, ap, ◌∙◌, true≢false, arith, mul-div_cancel, lt-ltb, le-ltb, le-leb}
use Rattle.std.proofs.Math.Nat.{min-eq_left}
use Rattle.std.specs.Float.{nan, inf, fin}
use Rattle.std.specs.Float.Ieee.{up, down, to_unsigned}
use Rattle.std.specs.Float.Ieee.Fits.{down_pos}
use Rattle.std.proofs.lemmas.Bool.{lt-leb}
use Rattle.float.specs.Rounded.{Is}
use Rattle.float.specs.Order.{is_finite}
use Rattle.adwin.specs.Settings.{interval, limit, class_most, places}
use Rattle.adwin.specs.Buckets.{Classed}
use Rattle.adwin.specs.Window.{Window, Outcome, quiet, full, has_room, grown, shrunk, update_of, is_empty, new_of, width_of}
use Rattle.adwin.specs.History.{Told, run_of, finite_in, dropped_by, values_in, Below}
use Rattle.adwin.specs.Laws.Cases.{update_cases, not_finite, no_room, not_due, is_due}
use Rattle.adwin.specs.Laws.Stacked.{at_most_cap, never_rises}
use Rattle.adwin.proofs.Laws.Merging.{class_low}
use Rattle.adwin.proofs.Laws.Sound.{Sound, sound_new, place_left, room_is, step, Run, run}

-- the update by x of the window w, after the values xs
pub record Next (xs : List Float) (w : Window) (x : Float) : Type 0 where
  -- "a value that isn't finite is no alarm and changes nothing"
  pub ignored : is_finite x ≡ false → quiet w ≡ update_of w x
  -- "have fewer than 65,535 finite values been taken? No: 8", by document 02, item 5, fewer than 2^40 − 1
  pub refused : is_finite x ≡ true → limit ≤ finite_in xs → full w ≡ update_of w x
  -- "On every 32nd finite value the cut search", and on no other
  pub searched : is_finite x ≡ true → finite_in xs < limit → (finite_in xs + 1) % interval ≡ 0 → shrunk (grown w x) ≡ update_of w x
  pub unsearched : is_finite x ≡ true → finite_in xs < limit → ((finite_in xs + 1) % interval ≢ 0) → quiet (grown w x) ≡ update_of w x
  -- "An update rings the alarm exactly when its cut search drops a bucket"
  pub rings : (update_of w x).alarm ≡ not (is_empty (dropped_by w x))

-- a whole double as a number
counts : (x : Float) (n : ℕ) → Is x n → n ≤ limit → to_unsigned 64 x ≡ n
unfolding to_unsigned
counts nan n p h = absurd p
counts (inf t) n p h = absurd p
counts (fin true m e) n p h = absurd (true≢false p.0)
counts (fin false m e) n p h =
    let q : m * up e ≡ n * down e = omega (arith, p.1) in
    let r : m * up e / down e ≡ n = ap (λ (i : ℕ). i / down e) q ∙ mul-div_cancel n (down_pos e) in
    ap (λ (i : ℕ). min i (2 ^ 64 - 1)) r ∙ min-eq_left (omega arith)

-- a higher class would stand for more values than a window takes
low_classes : (l : List Classed) → values_in l ≤ limit → Below class_most l
low_classes [] h = tt
low_classes (b ∷ l) h = (class_low b.class (omega arith), low_classes l (omega arith))

room : (w : Window) → w.taken < limit → length w.held < places → has_room w ≡ true
room w h k = rw (lt-ltb w.taken limit h, lt-ltb (length w.held) places k)

-- a window that has taken fewer values than the limit, and whose places are not full, refuses none
pub not_refused : (w : Window) (x : Float) → w.taken < limit → length w.held < places → (update_of w x).refusal ≡ 0
unfolding shrunk
not_refused w x h k =
    update_cases w x (λ (o : Outcome) (l : List Classed). o.refusal ≡ 0) (λ e. refl) (λ e r. absurd (true≢false (sym (room w h k) ∙ r)))
    (λ e r i. refl) (λ e r i. refl)

ran : (delta : Float) (xs : List Float) → Run (new_of delta) xs (run_of (new_of delta) xs)
ran delta xs = run (new_of delta) xs (sound_new delta)

-- a window that started empty is told from its values
pub told_from_history : (delta : Float) (xs : List Float) → Told delta xs (run_of (new_of delta) xs)
told_from_history delta xs =
    let w = run_of (new_of delta) xs in
    let r : Run (new_of delta) xs w = ran delta xs in
    let s : Sound w = r.sound in
    let n = values_in w.held in
    let b : n ≤ limit = omega (arith, s.fits, s.within) in
    let c : width_of w.sums ≡ n = counts w.sums.width n s.width.value b in
    record {
      taken = omega (arith, r.taken);
      sized = s.sized;
      sums = s.width;
      never_rising = never_rises w.held s.stacked;
      at_most_six = at_most_cap w.held s.stacked;
      classes = low_classes w.held b;
      never_full = omega (arith, place_left w s);
      dropped = r.sized;
      width = omega (arith, r.values);
    }

-- and so is its next update
pub next_update : (delta : Float) (xs : List Float) (x : Float) → Next xs (run_of (new_of delta) xs) x
next_update delta xs x =
    let w = run_of (new_of delta) xs in
    let r : Run (new_of delta) xs w = ran delta xs in
    let s : Sound w = r.sound in
    let t : w.taken ≡ min (0 + finite_in xs) limit = r.taken in
    record {
      ignored = not_finite w x;
      refused = λ e h. no_room w x e (room_is w s ∙ le-ltb w.taken limit (omega arith));
      searched = λ e h i. is_due w x e (room_is w s ∙ lt-ltb w.taken limit (omega arith)) (le-leb interval (w.since_check + 1) (omega (arith, s.since)));
      unsearched = λ e h i. not_due w x e (room_is w s ∙ lt-ltb w.taken limit (omega arith)) (lt-leb interval (w.since_check + 1) (omega (arith, s.since)));
      rings = (step w x s).rings;
    }
