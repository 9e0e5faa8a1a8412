-- What a cleanup of the arrays leaves, seen through the view. Assumes nothing.
use Prim.Native.Nat.{ℕ}
use mathlib.Core.Path.{◌≡◌, ap, ◌∙◌}
use mathlib.Core.List.{List, map}
use mathlib.Core.Bool.{Bool}
use lib.ListN.{take}
use Rattle.lists.specs.Retain.{retain}
use Rattle.lists.specs.Laws.Maps.{map_retain}
use Rattle.model.specs.declared.micro.DbMicro.{DbMicro}
use Rattle.model.specs.declared.link.Link.{Link}
use Rattle.model.specs.DbState.{State}
use Rattle.model.specs.DbInsert.{micro_stays, link_stays}
use Rattle.model.specs.Stream.{holding, cleaned_of}
use Rattle.model.specs.Dbstream.{dbstream}
use Rattle.db_micro.specs.Held.{cut_to, held}
use Rattle.db_micro.specs.Laws.Held.{links_view}
use Rattle.dbstream.specs.declared.stream.DbStream.{DbStream}
use Rattle.dbstream.specs.View.{view, dim_of}

-- n of ms, and k of ls, are what the cleanup of s leaves
module _ (s : DbStream) (n : ℕ) (ms : List DbMicro) (k : ℕ) (ls : List Link) where
  abbrev micro_goes_on : DbMicro → Bool
  micro_goes_on = micro_stays s.params.settings.lambda s.params.floor s.t

  abbrev link_goes_on : List DbMicro → Link → Bool
  link_goes_on = link_stays s.params.settings.lambda s.params.floor s.t

  abbrev links_among : List DbMicro → List Link
  links_among q = retain (link_goes_on q) (view s).held.links

  -- s over these micro-clusters and links
  abbrev over : List DbMicro → List Link → State
  over kept bound = holding (view s) (record { next = s.next_id.0; micros = kept; links = bound })

  pub cleaned :
      take n ms ≡ retain micro_goes_on (take s.count s.micros) →
      take k ls ≡ retain (link_goes_on (take n ms)) (take s.link_count s.links) →
      over (held (dim_of s) n ms) (take k ls) ≡ cleaned_of dbstream (view s)
  cleaned kept bound =
      let micros_are : held (dim_of s) n ms ≡ retain micro_goes_on (view s).held.micros =
      ap (map (cut_to (dim_of s))) kept ∙ map_retain (cut_to (dim_of s)) micro_goes_on (take s.count s.micros) in
      let links_are : take k ls ≡ links_among (held (dim_of s) n ms) =
      bound ∙ links_view s.params.settings.lambda s.params.floor s.t (dim_of s) (take n ms) (view s).held.links in
      ap (over (held (dim_of s) n ms)) links_are ∙ ap (λ (q : List DbMicro). over q (links_among q)) micros_are
