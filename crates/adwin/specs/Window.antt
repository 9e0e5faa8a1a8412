-- The window: what it keeps, an update of it, and its figures. Definitions only.
use Rattle.std.specs.Prelude.{ℕ, ◌+◌, Bool, true, false, cond, not, ◌&&◌, List, [], ◌∷◌, length, nat_le, nat_lt, Float}
use Rattle.std.specs.Float.Ieee.{lt, to_unsigned}
use Rattle.float.specs.Order.{is_finite}
use Rattle.float.specs.Rounded.{◌⊕◌, ◌⊖◌, ◌⊗◌, ◌⊘◌, nought, one}
use Rattle.adwin.specs.Settings.{interval, limit, places, least, most}
use Rattle.adwin_buckets.specs.Bucket.{single_of}
use Rattle.adwin.specs.Buckets.{Classed, push_of}
use Rattle.adwin.specs.Cut.{Sums, Searched, search_of}

-- delta, the buckets oldest first, their sums, the values since the last cut search, and the values taken
pub record Window : Type 0 where
  pub delta : Float
  pub held : List Classed
  pub sums : Sums
  pub since_check : ℕ
  pub taken : ℕ

-- the answer to an update: whether the alarm rings, 0 or the refusal's number, and the window
pub record Outcome : Type 0 where
  pub alarm : Bool
  pub refusal : ℕ
  pub window : Window

-- no alarm
abbrev pub quiet : Window → Outcome
quiet w = record { alarm = false; refusal = 0; window = w }

-- "No: 8."
abbrev pub full : Window → Outcome
full w = record { alarm = false; refusal = 8; window = w }

-- "`Adwin` update: .. have fewer than 65,535 finite values been taken? No: 8."; by document 02, item 5, fewer than 2^40 − 1
-- Nor do full places take one, but no window that started empty fills them (`never_full` of `Told`).
abbrev pub has_room : Window → Bool
has_room w = nat_lt w.taken limit && nat_lt (length w.held) places

-- Document 01, Drift: "On every 32nd finite value the cut search" goes through the buckets
abbrev pub due : Window → Bool
due w = nat_le interval (w.since_check + 1)

-- the Rust's `update`: the sums with one value more, whose deviation is from the mean before
abbrev pub variance_with : Float → Float → Float → Float → Float
variance_with width total variance x =
    let dev = x ⊖ total ⊘ width in
    cond (lt nought width) (variance ⊕ width ⊗ dev ⊗ dev ⊘ (width ⊕ one)) variance

-- all three sums with one value more
abbrev pub joined : Sums → Float → Sums
joined s x = record { width = s.width ⊕ one; total = s.total ⊕ x; variance = variance_with s.width s.total s.variance x }

-- the window with one value more, before a cut search
unfoldable pub grown : Window → Float → Window
unfolding push_of
grown w x = record {
  delta = w.delta;
  held = push_of w.held (single_of x);
  sums = joined w.sums x;
  since_check = cond (due w) 0 (w.since_check + 1);
  taken = w.taken + 1;
}

-- whether a list has no bucket
abbrev pub is_empty : List Classed → Bool
is_empty [] = true
is_empty (b ∷ l) = false

-- "An update rings the alarm exactly when its cut search drops a bucket"
abbrev pub outcome : Window → Searched → Outcome
outcome w r = record {
  alarm = not (is_empty r.dropped);
  refusal = 0;
  window = record { delta = w.delta; held = r.kept; sums = r.sums; since_check = w.since_check; taken = w.taken };
}

-- the window after a cut search
unfoldable pub shrunk : Window → Outcome
unfolding search_of
shrunk w = outcome w (search_of w.delta w.sums w.held)

-- "a value that isn't finite is no alarm and changes nothing"
unfoldable pub update_of : Window → Float → Outcome
unfolding grown shrunk
update_of w x =
    cond (is_finite x)
    (cond (has_room w) (cond (due w) (shrunk (grown w x)) (quiet (grown w x))) (full w))
    (quiet w)

-- "`Adwin::new` clamps delta to between 2^−1022 and 1 − 2^−52; NaN stays"
abbrev pub clamped : Float → Float
clamped d = cond (lt d least) least (cond (lt most d) most d)

-- "Fresh .. an empty window"
abbrev pub new_of : Float → Window
new_of d = record {
  delta = clamped d;
  held = [];
  sums = record { width = nought; total = nought; variance = nought };
  since_check = 0;
  taken = 0;
}

-- "the window's mean (total/width, 0 when empty) and width"
abbrev pub mean_of : Sums → Float
mean_of s = cond (lt nought s.width) (s.total ⊘ s.width) nought

-- the width as a number
abbrev pub width_of : Sums → ℕ
width_of s = to_unsigned 64 s.width

-- the Rust's `variance`
abbrev pub variance_of : Sums → Float
variance_of s = cond (lt one s.width) (s.variance ⊘ s.width) nought
