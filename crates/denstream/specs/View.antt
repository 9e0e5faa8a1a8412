-- The stream of the arrays, and document 01's in it: the view. Definitions only.
use Rattle.std.specs.Prelude.{ℕ, take}
use Rattle.drift.specs.Monitor as drift
use Rattle.model.specs.DenState.{Holdings, State}
use Rattle.den_pool.specs.Held.{settled_of}
use Rattle.den_placement.specs.Pools.{pools_of}
use Rattle.denstream.specs.declared.stream.DenStream.{DenStream}

abbrev pub dim_of : DenStream → ℕ
dim_of s = (settled_of s.params).settings.dim

-- all that is kept, and nothing of the places past a count; shut, which a check of this crate pays with a quarter less memory
unfoldable pub held_in : DenStream → Holdings
held_in s = pools_of (dim_of s) s.potential s.potential_count s.outliers s.outlier_count

abbrev pub view : DenStream → State
view s = record { params = settled_of s.params; t = s.t; held = held_in s; labels = take s.label_count s.labels; drift = drift.view s.drift }
