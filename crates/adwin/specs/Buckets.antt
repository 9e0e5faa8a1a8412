-- The buckets of the window, oldest first, each with its class. Definitions only.
use Rattle.std.specs.Prelude.{ℕ, ◌+◌, min, cond, List, [], ◌∷◌, reverse, ◌==◌, nat_lt}
use Rattle.adwin_buckets.specs.declared.bucket.Bucket.{Bucket}
use Rattle.adwin_buckets.specs.Bucket.{merged_of}
use Rattle.adwin.specs.Settings.{cap}

-- a bucket with its class: it stands for 2^class values
pub record Classed : Type 0 where
  pub class : ℕ
  pub bucket : Bucket

-- Class numbers end at 255: no window that started empty comes near it (`classes` of `Told`).
abbrev pub next_class : ℕ → ℕ
next_class c = min (c + 1) 255

-- two of a class as one of the next
abbrev pub pair_of : Classed → Classed → Classed
pair_of older newer = record { class = next_class newer.class; bucket = merged_of older.bucket newer.bucket }

-- Document 01, Drift: "Over 6 in a class, the two oldest merge into the newest of the next."
-- k newer buckets of y's class are passed; `older` lie before y, newest first.
unfoldable pub carry : ℕ → Classed → List Classed → List Classed
carry k y [] = y ∷ []
carry k y (x ∷ older) =
    cond (x.class == y.class)
    (cond (nat_lt cap (k + 2)) (carry 0 (pair_of x y) older) (y ∷ carry (k + 1) x older))
    (y ∷ x ∷ older)

-- the buckets after one more
unfoldable pub push_of : List Classed → Bucket → List Classed
unfolding carry
push_of held b = reverse (carry 0 (record { class = 0; bucket = b }) (reverse held))
