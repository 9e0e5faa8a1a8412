-- One bucket. Definitions only.
use Rattle.std.specs.Prelude.{Float}
use Rattle.float.specs.Rounded.{◌⊕◌, ◌⊖◌, ◌⊗◌, ◌⊘◌, nought, one}
use Rattle.adwin_buckets.specs.declared.bucket.Bucket.{Bucket}

-- a value as a bucket
abbrev pub single_of : Float → Bucket
single_of x = record { size = one; total = x; variance = nought }

-- the Rust's `merged`: an older bucket with a newer one
abbrev pub merged_of : Bucket → Bucket → Bucket
merged_of older newer =
    let size = older.size ⊕ newer.size in
    let gap = older.total ⊘ older.size ⊖ newer.total ⊘ newer.size in
    record {
      size = size;
      total = older.total ⊕ newer.total;
      variance = older.variance ⊕ newer.variance ⊕ older.size ⊗ newer.size ⊘ size ⊗ gap ⊗ gap;
    }
