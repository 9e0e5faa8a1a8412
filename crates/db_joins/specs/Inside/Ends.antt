-- The ends of a link, where it joins them. Definition only.
use Rattle.std.specs.Prelude.{ℕ, Option, Some, None, Bool, cond, List, Float}
use Rattle.model.specs.declared.micro.MicroId.{MicroId}
use Rattle.model.specs.declared.link.Link.{Link}
use Rattle.db_joins.specs.Joined.{place_among, joins_by}

-- their places
abbrev pub ends_by : (ids : List MicroId) (strong : List Bool) (lambda t dense : Float) → Link → Option (ℕ × ℕ)
ends_by ids strong lambda t dense l =
    cond (joins_by ids strong lambda t dense l) (Some (place_among ids l.lo, place_among ids l.hi)) None
