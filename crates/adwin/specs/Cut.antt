-- The cut search of the window. Definitions only.
use Rattle.std.specs.Prelude.{Bool, false, cond, List, [], ◌∷◌, map, Float}
use Rattle.std.specs.Float.Ieee.{lt, le}
use Rattle.float.specs.Ln.{ln_of}
use Rattle.float.specs.Order.{larger}
use Rattle.adwin_buckets.specs.declared.bucket.Bucket.{Bucket}
use Rattle.adwin_buckets.specs.declared.cut.CutTest.{CutTest}
use Rattle.adwin_buckets.specs.Cut.{some_fails}
use Rattle.float.specs.Rounded.{◌⊕◌, ◌⊖◌, ◌⊗◌, ◌⊘◌, nought, one, two}
use Rattle.adwin.specs.Settings.{side}
use Rattle.adwin.specs.Buckets.{Classed}

-- what the window keeps of its values together
pub record Sums : Type 0 where
  pub width : Float
  pub total : Float
  pub variance : Float

-- Document 01, Drift: "v = variance/width"
abbrev pub vOf : Sums → Float
vOf s = s.variance ⊘ s.width

-- "g = ln(2×max(1, ln width)/delta)"
abbrev pub gOf : Float → Float → Float
gOf delta width = ln_of (two ⊗ larger (ln_of width) one ⊘ delta)

-- the test of the window's cuts
abbrev pub test_of : Sums → Float → CutTest
test_of s g = record { side = side; width = s.width; total = s.total; v = vOf s; g = g }

-- "while the width is at least 10 and a cut fails"
unfoldable pub must_drop : Float → Sums → List Bucket → Bool
unfolding some_fails
must_drop delta s buckets =
    cond (le (two ⊗ side) s.width) (some_fails (test_of s (gOf delta s.width)) nought nought buckets) false

-- the Rust's `drop_oldest`: the sums without a bucket
abbrev pub variance_without : Float → Float → Float → Bucket → Float
variance_without width total variance gone =
    let rest = width ⊖ gone.size in
    let gap = gone.total ⊘ gone.size ⊖ (total ⊖ gone.total) ⊘ rest in
    cond (lt nought rest) (larger (variance ⊖ (gone.variance ⊕ gone.size ⊗ rest ⊘ (gone.size ⊕ rest) ⊗ gap ⊗ gap)) nought) nought

-- "drops the oldest": all three sums without a bucket
abbrev pub sums_without : Sums → Bucket → Sums
sums_without s gone =
    record { width = s.width ⊖ gone.size; total = s.total ⊖ gone.total; variance = variance_without s.width s.total s.variance gone }

-- what a cut search drops, what it keeps, and the sums of what it keeps
pub record Searched : Type 0 where
  pub dropped : List Classed
  pub kept : List Classed
  pub sums : Sums

-- a search that drops nothing
abbrev pub all_kept : Sums → List Classed → Searched
all_kept s held = record { dropped = []; kept = held; sums = s }

-- a search that drops b too, before the others
abbrev pub also_dropped : Classed → Searched → Searched
also_dropped b r = record { dropped = b ∷ r.dropped; kept = r.kept; sums = r.sums }

-- the buckets without their classes
abbrev pub buckets_of : List Classed → List Bucket
buckets_of held = map (λ (c : Classed). c.bucket) held

-- "drops the oldest while the width is at least 10 and a cut fails"
unfoldable pub search_of : Float → Sums → List Classed → Searched
unfolding must_drop
search_of delta s [] = all_kept s []
search_of delta s (b ∷ newer) =
    cond (must_drop delta s (buckets_of (b ∷ newer)))
    (also_dropped b (search_of delta (sums_without s b.bucket) newer))
    (all_kept s (b ∷ newer))
