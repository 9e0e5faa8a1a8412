-- The stream of the arrays, and document 01's in it: the view. Definitions only.
use Rattle.std.specs.Prelude.{ℕ, min, take}
use Rattle.feature.specs.Feature.{max_dim}
use Rattle.drift.specs.Monitor as drift
use Rattle.model.specs.DbState.{Settings, Params, Holdings, State}
use Rattle.db_micro.specs.Held.{held}
use Rattle.dbstream.specs.declared.stream.DbStream.{DbStream}

-- p of so many coordinates
abbrev pub with_dim : Settings → ℕ → Settings
with_dim p dim = record { dim = dim; r = p.r; lambda = p.lambda; alpha = p.alpha; min_weight = p.min_weight }

-- never more than 15 coordinates
abbrev pub settled_of : Params → Params
settled_of p = record { settings = with_dim p.settings (min p.settings.dim max_dim); t_gap = p.t_gap; floor = p.floor }

abbrev pub dim_of : DbStream → ℕ
dim_of s = (settled_of s.params).settings.dim

-- all that is kept, and nothing of the places past a count
abbrev pub held_in : DbStream → Holdings
held_in s = record { next = s.next_id.0; micros = held (dim_of s) s.count s.micros; links = take s.link_count s.links }

abbrev pub view : DbStream → State
view s = record { params = settled_of s.params; t = s.t; held = held_in s; labels = take s.label_count s.labels; drift = drift.view s.drift }
