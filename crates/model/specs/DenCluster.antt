-- Document 01, Families: DenStream's groups and labels. Definitions only.
use Rattle.std.specs.Prelude.{ℕ, ◌+◌, Bool, true, cond, List, [], ◌∷◌, ◌++◌, map, ℤ, from_bits, Float}
use Rattle.std.specs.Float.{binary64}
use Rattle.std.specs.Float.Ieee.{le}
use Rattle.float.specs.Rounded.{◌⊗◌}
use Rattle.feature.specs.Distance.{sq_dist}
use Rattle.model.specs.declared.micro.DenMicro.{DenMicro}
use Rattle.model.specs.Body.{faded_weight}
use Rattle.model.specs.Families.{labels_by, counted_by}
use Rattle.model.specs.DenState.{State}

-- "potential centres at squared distance ≤ 4×(eps×eps) are joined"
abbrev pub close : (eps2 : Float) → (centre other : List Float) → Bool
close eps2 centre other = le (sq_dist centre other) (from_bits binary64 0x4010_0000_0000_0000 ⊗ eps2)

-- the pairs of place i with those of the list whose centres are close to its centre; the list's head has the place j
unfoldable pub row_from : (eps2 : Float) → (i : ℕ) → (centre : List Float) → (j : ℕ) → List DenMicro → List (ℕ × ℕ)
row_from eps2 i centre j [] = []
row_from eps2 i centre j (m ∷ rest) =
    cond (close eps2 centre m.body.cf.mean) ((i, j) ∷ row_from eps2 i centre (j + 1) rest) (row_from eps2 i centre (j + 1) rest)

-- all pairs of close ones, the lower place first
unfoldable pub pairs_from : (eps2 : Float) → (i : ℕ) → List DenMicro → List (ℕ × ℕ)
pairs_from eps2 i [] = []
pairs_from eps2 i (m ∷ rest) = row_from eps2 i m.body.cf.mean (i + 1) rest ++ pairs_from eps2 (i + 1) rest

abbrev pub joins_of : State → List (ℕ × ℕ)
joins_of s = pairs_from s.params.eps2 0 s.held.potential

-- Document 02, item 8: "then one for each strong micro-cluster (DenStream: each potential one)": all of them are sought
abbrev pub potential_ones : State → List Bool
potential_ones s = map (λ (m : DenMicro). true) s.held.potential

-- the potential ones' weights, faded to the clock
abbrev pub faded_weights : State → List Float
faded_weights s = map (λ (m : DenMicro). faded_weight s.params.settings.lambda s.t m.body) s.held.potential

unfoldable pub labels_of : State → List ℤ
unfolding labels_by counted_by row_from pairs_from
labels_of s = labels_by (counted_by s.params.settings.mu (faded_weights s) (joins_of s)) (joins_of s)
