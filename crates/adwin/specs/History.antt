-- The window told from the list of values that it was given. Definitions only.
use Rattle.std.specs.Prelude.{◌≡◌, ℕ, ◌+◌, ◌^◌, ◌<◌, ◌≤◌, min, cond, ◌&&◌, List, [], ◌∷◌, ◌++◌, length, ◌==◌, Float}
use Rattle.float.specs.Rounded.{Exact}
use Rattle.float.specs.Order.{is_finite}
use Rattle.adwin.specs.Buckets.{Classed}
use Rattle.adwin.specs.Settings.{cap, limit, class_most, places}
use Rattle.adwin.specs.Cut.{search_of}
use Rattle.adwin.specs.Window.{Window, has_room, due, grown, update_of, new_of, width_of}

-- the window after a list of values
unfoldable pub run_of : Window → List Float → Window
unfolding update_of
run_of w [] = w
run_of w (x ∷ xs) = run_of (update_of w x).window xs

-- how many of the values are finite
unfoldable pub finite_in : List Float → ℕ
finite_in [] = 0
finite_in (x ∷ xs) = cond (is_finite x) 1 0 + finite_in xs

-- the buckets that an update's cut search drops
unfoldable pub dropped_by : Window → Float → List Classed
unfolding grown search_of
dropped_by w x = cond (is_finite x && (has_room w && due w)) (search_of w.delta (grown w x).sums (grown w x).held).dropped []

-- the buckets that the cut searches of a list of updates drop
unfoldable pub dropped_in : Window → List Float → List Classed
unfolding dropped_by update_of
dropped_in w [] = []
dropped_in w (x ∷ xs) = dropped_by w x ++ dropped_in (update_of w x).window xs

-- how many values a list of buckets stands for: 2^class each
abbrev pub values_in : List Classed → ℕ
values_in [] = 0
values_in (b ∷ l) = 2 ^ b.class + values_in l

-- each size is 2^class, exactly
abbrev pub Sized : List Classed → Type 0
Sized [] = Unit {0}
Sized (b ∷ l) = Exact (2 ^ b.class) b.bucket.size × Sized l

-- how many buckets have the class c
abbrev pub count_of : ℕ → List Classed → ℕ
count_of c [] = 0
count_of c (b ∷ l) = cond (b.class == c) 1 0 + count_of c l

-- no bucket has a class above c
abbrev pub Below : ℕ → List Classed → Type 0
Below c [] = Unit {0}
Below c (b ∷ l) = (b.class ≤ c) × Below c l

-- no bucket has a higher class than any older one
abbrev pub NeverRising : List Classed → Type 0
NeverRising [] = Unit {0}
NeverRising (b ∷ l) = Below b.class l × NeverRising l

-- the window w after the values xs
pub record Told (delta : Float) (xs : List Float) (w : Window) : Type 0 where
  -- every finite value is taken, up to the limit
  pub taken : w.taken ≡ min (finite_in xs) limit
  -- each size is 2^class, exactly, and they sum to the width
  pub sized : Sized w.held
  pub sums : Exact (values_in w.held) w.sums.width
  -- "Over 6 in a class, the two oldest merge into the newest of the next."
  pub never_rising : NeverRising w.held
  pub at_most_six : (c : ℕ) → count_of c w.held ≤ cap
  -- no class stands for more values than the limit
  pub classes : Below class_most w.held
  -- the places for buckets are never full
  pub never_full : length w.held < places
  -- "The width equals values taken less the sizes dropped."
  pub dropped : Sized (dropped_in (new_of delta) xs)
  pub width : width_of w.sums + values_in (dropped_in (new_of delta) xs) ≡ w.taken
