-- The labels of the arrays, seen through the view. Assumes nothing.
use Prim.Native.Nat.{ℕ, ◌≤◌, min}
use native.Mathlib.Omega.{arith}
use mathlib.Core.Path.{◌≡◌, sym, ap, ap₂, ◌∙◌}
use mathlib.Core.List.{List, map, map-map}
use mathlib.Core.Bool.{Bool}
use lib.IntN.{ℤ}
use lib.Ieee.{Float}
use lib.ListN.{length, take, length-take}
use Rattle.std.proofs.lemmas.List.{take_all}
use Rattle.model.specs.Limits.{micros_most, links_most}
use Rattle.model.specs.declared.micro.DbMicro.{DbMicro}
use Rattle.model.specs.declared.link.Link.{Link}
use Rattle.float.specs.Rounded.{◌⊗◌}
use Rattle.union_find.specs.declared.forest.Work.{Work}
use Rattle.union_find.specs.Steps.{find_steps, work_by}
use Rattle.model.specs.declared.micro.MicroId.{MicroId}
use Rattle.model.specs.Families.{labels_by}
use Rattle.model.specs.DbInsert.{id_of}
use Rattle.model.specs.Stream.{labelled}
use Rattle.model.specs.DbCluster.{is_strong, strong_ones, joins_of, labels_of}
use Rattle.model.specs.Dbstream.{cluster_of, finds_of, steps_of}
use Rattle.db_micro.specs.Held.{cut_to, reaches}
use Rattle.db_joins.specs.Joined.{joined_by}
use Rattle.db_joins.specs.Laws.Joined.{joined_view}
use Rattle.dbstream.specs.declared.stream.DbStream.{DbStream}
use Rattle.dbstream.specs.View.{view, dim_of}

-- micros and links are those held, and mask says which of them are strong
module _
    (s : DbStream) (lm : length s.micros ≡ micros_most) (ll : length s.links ≡ links_most)
    (micros : List DbMicro) (em : micros ≡ take s.count s.micros) (links : List Link) (el : links ≡ take s.link_count s.links)
    (mask : List Bool) (size : length mask ≡ micros_most)
    (emask : take (length micros) mask ≡ map (reaches s.params.settings.lambda s.t s.params.settings.min_weight) (take micros_most micros)) where
  abbrev dense : Float
  dense = s.params.settings.alpha ⊗ s.params.settings.min_weight

  -- of the mask as much counts as there are micro-clusters
  abbrev known : List Bool
  known = take (min (length micros) micros_most) mask

  abbrev joined : List (ℕ × ℕ)
  joined = joined_by (map id_of micros) known s.params.settings.lambda s.t dense (take links_most links)

  few : length micros ≤ micros_most
  few = omega (arith, ap length em, length-take s.count s.micros)

  links_are : take links_most links ≡ (view s).held.links
  links_are = take_all links_most links (omega (arith, ap length el, length-take s.link_count s.links)) ∙ el

  known_first : known ≡ take (length micros) mask
  known_first = ap (λ (m : ℕ). take m mask) (omega (arith, few))

  known_size : length known ≡ length micros
  known_size = omega (arith, length-take (min (length micros) micros_most) mask, few)

  strong_are : known ≡ strong_ones (view s)
  strong_are =
      known_first ∙ emask ∙ ap (map (reaches s.params.settings.lambda s.t s.params.settings.min_weight)) (take_all micros_most micros few ∙ em)
      ∙ sym (map-map (is_strong (view s)) (cut_to (dim_of s)) (take s.count s.micros))

  ids_are : map id_of micros ≡ map id_of (view s).held.micros
  ids_are = ap (map id_of) em ∙ sym (map-map id_of (cut_to (dim_of s)) (take s.count s.micros))

  joins_are : joined ≡ joins_of (view s) (view s).held.links
  joins_are =
      ap (joined_by (map id_of micros) known s.params.settings.lambda s.t dense) links_are
      ∙ ap₂ (λ (is : List MicroId) (bs : List Bool). joined_by is bs s.params.settings.lambda s.t dense (view s).held.links) ids_are strong_are
      ∙ joined_view (view s) (view s).held.links

  labels_are : labels_by known joined ≡ labels_of (view s)
  unfolding labels_of
  labels_are = ap₂ labels_by strong_are joins_are

  pub clustered : (labels : List ℤ) → take (length known) labels ≡ labels_by known joined → labelled (view s) (take (length micros) labels) ≡ cluster_of (view s)
  clustered labels e = ap (labelled (view s)) (ap (λ (m : ℕ). take m labels) (sym known_size) ∙ e ∙ labels_are)

  -- the finds that were made are the stream's
  pub worked : (w : Work) → w ≡ work_by (find_steps known joined) → w ≡ record { finds = finds_of (view s); steps = steps_of (view s) }
  worked w e = e ∙ ap work_by (ap₂ find_steps strong_are joins_are)
