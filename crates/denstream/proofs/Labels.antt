-- The labels of the potential micro-clusters held, seen through the view. Assumes nothing.
use mathlib.Core.Path.{◌≡◌, ap, ◌∙◌}
use mathlib.Core.List.{List, map}
use native.Mathlib.Omega.{arith}
use lib.IntN.{ℤ}
use lib.ListN.{length, take, length-take}
use Rattle.std.proofs.lemmas.List.{take_all}
use Rattle.union_find.specs.declared.forest.Work.{Work}
use Rattle.union_find.specs.Steps.{work_by}
use Rattle.model.specs.declared.micro.DenMicro.{DenMicro}
use Rattle.model.specs.Limits.{micros_most}
use Rattle.model.specs.Stream.{labelled}
use Rattle.model.specs.DenCluster.{labels_of}
use Rattle.model.specs.Denstream.{cluster_of, finds_of, steps_of}
use Rattle.den_pool.specs.Held.{micro_in, seen}
use Rattle.den_placement.specs.Pools.{potential_held}
use Rattle.den_grouping.specs.Group.{labels_in, find_steps_in}
use Rattle.denstream.specs.declared.stream.DenStream.{DenStream}
use Rattle.denstream.specs.View.{view, dim_of, held_in}

-- the pool is what is held of the potential ones
module _ (s : DenStream) (room : length s.potential ≡ micros_most) (pool : List DenMicro)
    (ep : pool ≡ take (potential_held s.potential_count) s.potential) where
  abbrev lent : List DenMicro
  lent = seen (dim_of s) micros_most pool

  lent_are : lent ≡ seen (dim_of s) (potential_held s.potential_count) s.potential
  lent_are =
      ap (map (micro_in (dim_of s)))
      (take_all micros_most pool (omega (arith, ap length ep, length-take (potential_held s.potential_count) s.potential)) ∙ ep)

  labels_are : labels_in s.params s.t lent ≡ labels_of (view s)
  unfolding labels_in labels_of held_in
  labels_are = ap (labels_in s.params s.t) lent_are

  pub clustered : (labels : List ℤ) → take (length pool) labels ≡ labels_in s.params s.t lent → labelled (view s) (take (length pool) labels) ≡ cluster_of (view s)
  clustered labels e = ap (labelled (view s)) (e ∙ labels_are)

  -- the finds that were made are the stream's
  pub worked : (w : Work) → w ≡ work_by (find_steps_in s.params lent) → w ≡ record { finds = finds_of (view s); steps = steps_of (view s) }
  unfolding find_steps_in held_in
  worked w e = e ∙ ap (λ (l : List DenMicro). work_by (find_steps_in s.params l)) lent_are
