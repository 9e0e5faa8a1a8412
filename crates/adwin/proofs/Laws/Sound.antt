-- What holds of every window that started empty, kept by each update.
use Rattle.std.specs.Prelude.{◌≡◌, ℕ, ◌+◌, ◌%◌, ◌<◌, ◌≤◌, min, Bool, true, false, cond, not, ◌&&◌, List, [], ◌∷◌, ◌++◌, reverse, length, nat_le, nat_lt, Float}
use Rattle.std.proofs.Math.Path.{refl, ap}
use Rattle.std.proofs.Common.{sym, ◌∙◌, subst, arith, lit<, lt-ltb, ltb-false, leb-true, leb-false}
use mathlib.Core.List.{reverse-append}
use Rattle.std.specs.Float.Ieee.{of_bits, of_int}
use Rattle.std.proofs.lemmas.List.{length-reverse}
use Rattle.float.specs.Rounded.{◌⊕◌, nought, one, Exact}
use Rattle.float.specs.Order.{is_finite}
use Rattle.float.specs.Laws.Whole.{exactly, exact_one, exact_sum}
use Rattle.adwin.specs.Settings.{interval, limit, places}
use Rattle.adwin.specs.Buckets.{Classed}
use Rattle.adwin.specs.Cut.{search_of}
use Rattle.adwin.specs.Window.{Window, Outcome, quiet, full, update_of, grown, shrunk, due, has_room, is_empty, new_of}
use Rattle.adwin.specs.History.{run_of, finite_in, dropped_by, dropped_in, values_in, Sized}
use Rattle.adwin.specs.Laws.Cases.{update_cases, room_taken}
use Rattle.adwin.specs.Laws.Stacked.{Stacked, none, stacked_front, values_append, values_reverse, sized_append, sized_front, sized_back}
use Rattle.adwin.specs.Laws.Fewest.{not_full}
use Rattle.adwin.proofs.Laws.Merging.{pushed}
use Rattle.adwin.specs.Laws.Dropping.{Split, splits}

-- what holds of every window that started empty
pub record Sound (w : Window) : Type 0 where
  pub stacked : Stacked 0 0 (reverse w.held)
  pub sized : Sized w.held
  pub width : Exact (values_in w.held) w.sums.width
  pub fits : values_in w.held ≤ w.taken
  pub within : w.taken ≤ limit
  pub since : w.since_check ≡ w.taken % interval

-- an empty window is sound
pub sound_new : (d : Float) → Sound (new_of d)
unfolding of_bits of_int
sound_new d = record { stacked = none; sized = tt; width = exactly 0 nought refl (lit< tt); fits = omega arith; within = omega arith; since = refl }

-- there is a place for one bucket more
pub place_left : (w : Window) → Sound w → length w.held < places
place_left w s =
    let v : values_in (reverse w.held) ≤ limit = omega (arith, values_reverse w.held, s.fits, s.within) in
    omega (arith, length-reverse w.held, not_full (reverse w.held) s.stacked v)

-- the places never run out before the values do
pub room_is : (w : Window) → Sound w → has_room w ≡ nat_lt w.taken limit
room_is w s = ap (λ (b : Bool). nat_lt w.taken limit && b) (lt-ltb (length w.held) places (place_left w s)) ∙ go (nat_lt w.taken limit)
  where
    go : (b : Bool) → (b && true) ≡ b
    go true = refl
    go false = refl

-- ---- an update
sound_grown : (w : Window) (x : Float) → Sound w → w.taken < limit → Sound (grown w x) × (values_in (grown w x).held ≡ values_in w.held + 1)
unfolding grown of_bits
sound_grown w x s h =
    let p = pushed w.held x s.stacked s.sized (omega (arith, s.fits)) in
    let v : values_in (grown w x).held ≡ values_in w.held + 1 = p.values in (
      record {
        stacked = p.stacked;
        sized = p.sized;
        width = subst (λ (i : ℕ). Exact i (w.sums.width ⊕ one)) (sym v) (exact_sum s.width exact_one (omega (arith, s.fits)));
        fits = omega (arith, s.fits);
        within = omega arith;
        since = go (due w) refl;
      },
      v,
    )
  where
    go : (t : Bool) → nat_le interval (w.since_check + 1) ≡ t → cond t 0 (w.since_check + 1) ≡ (w.taken + 1) % interval
    go true e = omega (arith, s.since, leb-true interval (w.since_check + 1) e)
    go false e = omega (arith, s.since, leb-false interval (w.since_check + 1) e)

-- the window w, an update of it by x with the outcome o, and the buckets l that its search drops
pub record Step (w : Window) (x : Float) (o : Outcome) (l : List Classed) : Type 0 where
  pub sound : Sound o.window
  pub taken : o.window.taken ≡ min (w.taken + cond (is_finite x) 1 0) limit
  pub sized : Sized l
  pub values : values_in o.window.held + values_in l + w.taken ≡ values_in w.held + o.window.taken
  pub rings : o.alarm ≡ not (is_empty l)

module _ (w : Window) (x : Float) (s : Sound w) where
  untaken : is_finite x ≡ false → Step w x (quiet w) []
  untaken e = record { sound = s; taken = rw e (omega (arith, s.within)); sized = tt; values = omega arith; rings = refl }

  refused : is_finite x ≡ true → has_room w ≡ false → Step w x (full w) []
  refused e h = record {
    sound = s;
    taken = rw e (omega (arith, s.within, ltb-false w.taken limit (sym (room_is w s) ∙ h)));
    sized = tt;
    values = omega arith;
    rings = refl;
  }

  unsearched : is_finite x ≡ true → has_room w ≡ true → due w ≡ false → Step w x (quiet (grown w x)) []
  unfolding grown
  unsearched e h i =
      let g = sound_grown w x s (room_taken w h) in
      record { sound = g.0; taken = rw e (omega (arith, room_taken w h)); sized = tt; values = omega (arith, g.1); rings = refl }

  searched :
      is_finite x ≡ true →
      has_room w ≡ true →
      due w ≡ true →
      Step w x (shrunk (grown w x)) (search_of w.delta (grown w x).sums (grown w x).held).dropped
  unfolding grown shrunk
  searched e h i =
      let u = grown w x in
      let g = sound_grown w x s (room_taken w h) in
      let r = search_of w.delta u.sums u.held in
      let c : Split u.held r = splits w.delta u.sums u.held g.0.width g.0.sized in
      let v : values_in u.held ≡ values_in r.dropped + values_in r.kept = ap values_in c.parts ∙ values_append r.dropped r.kept in
      record {
        sound = record {
          stacked = stacked_front (reverse r.kept) (reverse r.dropped)
              (subst (λ (l : List Classed). Stacked 0 0 l) (ap reverse c.parts ∙ reverse-append r.dropped r.kept) g.0.stacked);
          sized = sized_back r.dropped r.kept (subst Sized c.parts g.0.sized);
          width = c.width;
          fits = omega (arith, g.0.fits);
          within = g.0.within;
          since = g.0.since;
        };
        taken = rw e (omega (arith, room_taken w h));
        sized = sized_front r.dropped r.kept (subst Sized c.parts g.0.sized);
        values = omega (arith, g.1);
        rings = refl;
      }

  -- one update of a sound window
  pub step : Step w x (update_of w x) (dropped_by w x)
  step = update_cases w x (Step w x) untaken refused unsearched searched

-- ---- a list of values
pub record Run (w : Window) (xs : List Float) (u : Window) : Type 0 where
  pub sound : Sound u
  pub taken : u.taken ≡ min (w.taken + finite_in xs) limit
  pub sized : Sized (dropped_in w xs)
  pub values : values_in u.held + values_in (dropped_in w xs) + w.taken ≡ values_in w.held + u.taken

-- a list of updates
pub run : (w : Window) (xs : List Float) → Sound w → Run w xs (run_of w xs)
unfolding run_of finite_in dropped_in
run w [] s = record { sound = s; taken = omega (arith, s.within); sized = tt; values = omega arith }
run w (x ∷ xs) s =
    let u = (update_of w x).window in
    let a : Step w x (update_of w x) (dropped_by w x) = step w x s in
    let b : Run u xs (run_of u xs) = run u xs a.sound in
    let c : values_in (dropped_by w x ++ dropped_in u xs) ≡ values_in (dropped_by w x) + values_in (dropped_in u xs) =
    values_append (dropped_by w x) (dropped_in u xs) in
    record {
      sound = b.sound;
      taken = omega (arith, a.taken, b.taken);
      sized = sized_append (dropped_by w x) (dropped_in u xs) a.sized b.sized;
      values = omega (arith, a.values, b.values);
    }
