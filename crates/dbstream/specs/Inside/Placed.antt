-- What is held after the micro-clusters and links of an insert and before its tick, by what the scan found. Definitions only.
use mathlib.Core.List.{List, map, foldl}
use Rattle.std.specs.Prelude.{Float, take}
use Rattle.model.specs.declared.micro.MicroId.{MicroId}
use Rattle.model.specs.declared.micro.DbMicro.{DbMicro}
use Rattle.model.specs.declared.link.Link.{Link}
use Rattle.model.specs.Stream.{taking}
use Rattle.model.specs.DbState.{Holdings, State}
use Rattle.model.specs.DbInsert as insert
use Rattle.db_neighbours.specs.declared.scan.Scan.{Scan}
use Rattle.db_micro.specs.Held.{cut_to}
use Rattle.db_neighbours.specs.Placing.{placed_among, next_after}
use Rattle.dbstream.specs.declared.stream.DbStream.{DbStream}
use Rattle.dbstream.specs.View.{view, dim_of}
use Rattle.drift.specs.Monitor.{Nearest}

abbrev pub holds : MicroId → List DbMicro → List Link → Holdings
holds next ms ls = record { next = next.0; micros = ms; links = ls }

-- with the point, by what the scan found
abbrev pub micros_by : DbStream → Scan → List Float → List DbMicro
micros_by s f x =
    map (cut_to (dim_of s))
    (placed_among f s.params.settings.r s.params.settings.lambda s.t s.next_id x s.count (take s.count s.micros))

abbrev pub gained_by : DbStream → Scan → List Link
gained_by s f = foldl (insert.gain_of s.params.settings.lambda s.t) (take s.link_count s.links) (insert.pairs_of (take f.count f.ids))

abbrev pub held_by : DbStream → Scan → List Float → Holdings
held_by s f x = holds (next_after f s.count s.next_id) (micros_by s f x) (gained_by s f)

abbrev pub placed_by : DbStream → Scan → List Float → State
placed_by s f x = taking (view s) (held_by s f x)

-- the drift distance that the tick is told: "all measured before any changes", from the means as the scan met them
abbrev pub told_of : DbStream → Scan → List Float → Nearest
told_of s f x = f.nearest
