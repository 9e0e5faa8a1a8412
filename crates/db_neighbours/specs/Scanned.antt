-- What a scan tells of a point and the micro-clusters held. Definitions only.
use Rattle.std.specs.Prelude.{ℕ, List, map, length, take, Float}
use Rattle.lists.specs.Retain.{retain}
use Rattle.model.specs.declared.micro.DbMicro.{DbMicro}
use Rattle.model.specs.DbInsert.{is_neighbour, least_of, id_of}
use Rattle.db_neighbours.specs.declared.scan.Scan.{Scan}
use Rattle.db_neighbours.specs.Near.{distances_to}

-- nothing of the places past a count, n distances being measured
abbrev pub scan_told : (n : ℕ) → Scan → Scan
scan_told n s = record { distances = take n s.distances; nearest = s.nearest; ids = take s.count s.ids; count = s.count }

-- "Neighbours are the micro-clusters whose mean has squared distance at most r×r, all measured before any changes"; "DBSTREAM's nearest is the minimum"
abbrev pub scan_of : (r : Float) (x : List Float) → List DbMicro → Scan
scan_of r x ms =
    record {
      distances = distances_to x ms;
      nearest = least_of (distances_to x ms);
      ids = map id_of (retain (is_neighbour r x) ms);
      count = length (retain (is_neighbour r x) ms);
    }
