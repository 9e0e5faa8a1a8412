-- The joined pairs are document 01's. Assumes nothing.
use Rattle.std.specs.Prelude.{ℕ, suc, ◌≡◌, refl, false, cond, ◌&&◌, List, [], ◌∷◌, map, eqb, get_or}
use Rattle.std.proofs.Common.{ap, ap₂, ◌∙◌}
use Rattle.float.specs.Rounded.{◌⊗◌}
use Rattle.model.specs.declared.micro.MicroId.{MicroId}
use Rattle.model.specs.declared.micro.DbMicro.{DbMicro}
use Rattle.model.specs.declared.link.Link.{Link}
use Rattle.model.specs.DbState.{State}
use Rattle.model.specs.DbInsert.{id_of}
use Rattle.model.specs.DbCluster.{place_of, strong_ones, is_dense, joins_of}
use Rattle.db_joins.specs.Joined.{place_among, joins_by, joined_by}

-- a place among creation numbers is one among micro-clusters
pub place_view : (ms : List DbMicro) (id : MicroId) → place_among (map id_of ms) id ≡ place_of ms id
unfolding place_among place_of
place_view [] id = refl
place_view (m ∷ ms) id = ap (λ (q : ℕ). cond (eqb m.id.0 id.0) 0 (suc q)) (place_view ms id)

-- the pairs joined are document 01's
pub joined_view :
    (s : State) (ls : List Link) →
    joined_by (map id_of s.held.micros) (strong_ones s) s.params.settings.lambda s.t
    (s.params.settings.alpha ⊗ s.params.settings.min_weight) ls ≡ joins_of s ls
unfolding joined_by joins_of
joined_view s [] = refl
joined_view s (l ∷ ls) =
    ap (λ (ps : List (ℕ × ℕ)).
    cond (joins_by ids (strong_ones s) s.params.settings.lambda s.t (s.params.settings.alpha ⊗ s.params.settings.min_weight) l)
    ((place_among ids l.lo, place_among ids l.hi) ∷ ps) ps) (joined_view s ls)
    ∙ ap₂ (λ (x y : ℕ). cond (get_or (strong_ones s) x false && get_or (strong_ones s) y false && is_dense s l) ((x, y) ∷ joins_of s ls) (joins_of s ls))
    (place_view s.held.micros l.lo) (place_view s.held.micros l.hi)
  where
    ids : List MicroId
    ids = map id_of s.held.micros
