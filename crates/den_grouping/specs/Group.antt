-- DenStream's labels, and the finds that they take, of a list of potential micro-clusters. Definitions only.
use Rattle.std.specs.Prelude.{ℕ, true, List, map, ℤ, Float}
use Rattle.union_find.specs.Steps.{find_steps}
use Rattle.model.specs.declared.micro.DenMicro.{DenMicro}
use Rattle.model.specs.Families.{labels_by, counted_by}
use Rattle.model.specs.DenState.{Params}
use Rattle.model.specs.DenCluster.{pairs_from}
use Rattle.den_pool.specs.Held.{weight_of}

-- `labels_of` of a stream with these settings, clock and potential ones
unfoldable pub labels_in : Params → (t : Float) → List DenMicro → List ℤ
unfolding labels_by counted_by pairs_from
labels_in p t l =
    let pairs : List (ℕ × ℕ) = pairs_from p.eps2 0 l in
    labels_by (counted_by p.settings.mu (map (weight_of p.settings.lambda t) l) pairs) pairs

-- `find_steps_of` of such a stream
unfoldable pub find_steps_in : Params → List DenMicro → List ℕ
unfolding pairs_from
find_steps_in p l = find_steps (map (λ (m : DenMicro). true) l) (pairs_from p.eps2 0 l)
