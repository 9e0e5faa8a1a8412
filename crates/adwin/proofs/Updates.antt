-- The struct after an update's push is the window with one value more. Assumes nothing.
use Rattle.std.proofs.Common.{◌≡◌, ℕ, ◌+◌, ◌<◌, ◌≤◌, Bool, true, false, cond, sym, refl, ap, ◌∙◌, arith, le-leb}
use lib.Ieee.{Float}
use borrow.Author.Tests.{lt-leb}
use Rattle.float.specs.Order.{is_finite}
use Rattle.adwin.specs.declared.Adwin.{Adwin}
use Rattle.adwin.specs.Settings.{interval}
use Rattle.adwin_buckets.specs.Bucket.{single_of}
use Rattle.adwin.specs.Buckets.{push_of}
use Rattle.adwin.specs.Window.{Window, quiet, has_room, due, joined, grown, shrunk, update_of}
use Rattle.adwin.specs.View.{held_of, view}
use Rattle.adwin.specs.Inside.Lists.{with_held}
use Rattle.adwin.specs.Laws.Cases.{not_due, is_due}

-- u with x in its sums, and m values since the last search
abbrev counted : Window → Float → ℕ → Window
counted u x m = record { delta = u.delta; held = u.held; sums = joined u.sums x; since_check = m; taken = u.taken + 1 }

-- w is a with its new bucket
pub record Pushed (a : Adwin) (x : Float) (w : Adwin) : Type 0 where
  pub finite : is_finite x ≡ true
  pub room : has_room (view a) ≡ true
  pub held : view w ≡ with_held (view a) (push_of (held_of a) (single_of x))

module _ (a : Adwin) (x : Float) (w : Adwin) (p : Pushed a x w) where
  pub since_is : w.since_check ≡ a.since_check
  since_is = ap (λ (u : Window). u.since_check) p.held

  pub taken_is : w.taken ≡ a.taken
  taken_is = ap (λ (u : Window). u.taken) p.held

  grown_is : (m : ℕ) (t : Bool) → due (view a) ≡ t → m ≡ cond t 0 (a.since_check + 1) → counted (view w) x m ≡ grown (view a) x
  unfolding grown
  grown_is m t d e =
      ap (λ (y : Window). counted y x m) p.held
      ∙ ap (counted (with_held (view a) (push_of (held_of a) (single_of x))) x) (e ∙ ap (λ (b : Bool). cond b 0 (a.since_check + 1)) (sym d))

  -- an update that is not due
  pub unsearched : w.since_check < 31 → quiet (counted (view w) x (w.since_check + 1)) ≡ update_of (view a) x
  unsearched h =
      let d : due (view a) ≡ false = lt-leb interval (a.since_check + 1) (omega (arith, since_is)) in
      ap quiet (grown_is (w.since_check + 1) false d (ap (λ (k : ℕ). k + 1) since_is)) ∙ not_due (view a) x p.finite p.room d

  -- an update that is due
  pub searched : 31 ≤ w.since_check → shrunk (counted (view w) x 0) ≡ update_of (view a) x
  searched h =
      let d : due (view a) ≡ true = le-leb interval (a.since_check + 1) (omega (arith, since_is)) in
      ap shrunk (grown_is 0 true d refl) ∙ is_due (view a) x p.finite p.room d
