-- A stream's window has taken fewer values than inserts were accepted: the first one has no nearest distance.
use Prim.Native.Nat.{ℕ, ◌+◌, ◌≤◌, ◌<◌}
use mathlib.Core.Path.{◌≡◌, refl, ap, ◌∙◌}
use mathlib.Core.Logic.{◌⊎◌, inl, inr, ⊎_elim}
use mathlib.Core.Bool.{Bool}
use mathlib.Core.List.{List}
use native.Mathlib.Omega.{arith}
use lib.Ieee.{Float}
use Rattle.adwin.specs.Buckets.{Classed}
use Rattle.adwin.specs.Window.{Window, Outcome, grown, shrunk, update_of}
use Rattle.adwin.specs.Laws.Cases.{update_cases}
use Rattle.adwin.proofs.Laws.History.{not_refused}
use Rattle.drift.specs.Monitor.{Monitor, observe_of, Nearest}
use Rattle.model.specs.Limits.{clock_most}
use Rattle.model.specs.Laws.Limits.{limits_agree}
use Rattle.model.specs.Run.{accepted_in}
use Rattle.model.specs.Stream.{State, Kind, taking, fresh, taken_of}
use Rattle.model.proofs.Laws.Stream.{tick_drift}
use Rattle.claims.specs.Whole.{after, told}
use Rattle.claims.proofs.Runs.{always, clock_counts, drift_heard}
use Rattle.std.specs.Prelude.{None, Some}

abbrev taken_by : Monitor → ℕ
taken_by m = m.window.taken

one_value : (w : Window) (x : Float) → (update_of w x).window.taken ≤ w.taken + 1
unfolding grown shrunk
one_value w x =
    update_cases w x (λ (o : Outcome) (l : List Classed). o.window.taken ≤ w.taken + 1)
    (λ e. omega arith) (λ e r. omega arith) (λ e r i. omega arith) (λ e r i. omega arith)

one_seen : (m : Monitor) (d : Nearest) (t : Float) → taken_by (observe_of m d t) ≤ taken_by m + 1
one_seen m None t = omega arith
one_seen m (Some d2) t = one_value m.window _

-- after n accepted inserts, of a stream with this monitor and these nearest distances
abbrev pub Early : (n : ℕ) → Monitor → (List Float → Nearest) → Type 0
Early n m nearest = (taken_by m < n) ⊎ ((taken_by m ≡ 0) × ((x : List Float) → nearest x ≡ None))

module _ {S P H : Type 0} (k : Kind S P H) (place : State P H → List Float → Bool) where
  one_taken : (n : ℕ) (s : State P H) (x : List Float) → Early n s.drift (k.nearest_for s) → taken_by (taken_of k s x).drift < n + 1
  one_taken n s x = ⊎_elim seen_more unseen
    where
      e : (taken_of k s x).drift ≡ observe_of s.drift (k.nearest_for s x) s.t
      e = tick_drift k (taking s (k.placed s x)) (k.nearest_for s x)

      seen_more : taken_by s.drift < n → taken_by (taken_of k s x).drift < n + 1
      seen_more f = omega (arith, ap taken_by e, one_seen s.drift (k.nearest_for s x) s.t)

      unseen : (taken_by s.drift ≡ 0) × ((y : List Float) → k.nearest_for s y ≡ None) → taken_by (taken_of k s x).drift < n + 1
      unseen f =
          let q : taken_by (taken_of k s x).drift ≡ taken_by s.drift = ap taken_by (e ∙ ap (λ (d : Nearest). observe_of s.drift d s.t) (f.1 x)) in
          omega (arith, f.0)

  -- of a stream that has nothing near where it is fresh
  module _ (none : (p : S) (x : List Float) → k.nearest_for (fresh k p) x ≡ None) (p : S) (xs : List (List Float)) where
    early_told : Early (accepted_in (told k place p xs)) (after k place p xs).drift (k.nearest_for (after k place p xs))
    early_told =
        always k place (λ (n : ℕ) (s : State P H). Early n s.drift (k.nearest_for s)) (λ n s x c e h. inl (one_taken n s x h)) p (inr (refl, none p)) xs

    -- so its window refuses no value
    pub window_takes : (v : Float) → (update_of (after k place p xs).drift.window v).refusal ≡ 0
    window_takes v =
        let h : accepted_in (told k place p xs) ≤ clock_most = (clock_counts k place p xs).limit in
        not_refused (after k place p xs).drift.window v (⊎_elim (λ f. omega (arith, limits_agree.window)) (λ f. omega (arith, f.0)) early_told)
        (drift_heard k place p xs).told.never_full
