-- What the contracts of private functions cite. No public contract does.
use Rattle.std.specs.Prelude.{ℕ, zero, suc, List, [], ◌∷◌, drop}
use Rattle.adwin.specs.Buckets.{Classed, pair_of}
use Rattle.adwin.specs.Cut.{Sums, sums_without}
use Rattle.adwin.specs.Window.{Window}

-- the window with other buckets
abbrev pub with_held : Window → List Classed → Window
with_held w held = record { delta = w.delta; held = held; sums = w.sums; since_check = w.since_check; taken = w.taken }

-- the buckets at j and j + 1 as one of the next class
unfoldable pub pair_merged : ℕ → List Classed → List Classed
pair_merged j [] = []
pair_merged j (x ∷ []) = x ∷ []
pair_merged zero (x ∷ y ∷ newer) = pair_of x y ∷ newer
pair_merged (suc j) (x ∷ y ∷ newer) = x ∷ pair_merged j (y ∷ newer)

-- the sums without the oldest bucket
abbrev pub without_oldest : Sums → List Classed → Sums
without_oldest s [] = s
without_oldest s (b ∷ newer) = sums_without s b.bucket

-- the window without its oldest bucket
abbrev pub oldest_dropped : Window → Window
oldest_dropped w = record { delta = w.delta; held = drop 1 w.held; sums = without_oldest w.sums w.held; since_check = w.since_check; taken = w.taken }
