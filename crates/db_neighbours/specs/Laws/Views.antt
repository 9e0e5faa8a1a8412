-- What is done to the micro-clusters of an array is done to those of dim coordinates that they are. Assumes nothing.
use Rattle.std.specs.Prelude.{◌≡◌, ℕ, ◌≤◌, Bool, true, false, cond, List, [], ◌∷◌, map, length, Float}
use Rattle.std.proofs.Math.Path.{refl, ap₂}
use Rattle.std.proofs.Common.{sym, ap, ◌∙◌}
use Rattle.std.proofs.lemmas.Simd.{map-map}
use Rattle.float.specs.Rounded.{◌⊗◌}
use Rattle.lists.specs.Retain.{retain}
use Rattle.lists.specs.Laws.Maps.{map_retain}
use Rattle.feature.specs.Feature.{max_dim}
use Rattle.model.specs.declared.body.Body.{Body}
use Rattle.model.specs.declared.micro.MicroId.{MicroId}
use Rattle.model.specs.declared.micro.DbMicro.{DbMicro}
use Rattle.model.specs.DbInsert.{id_of, is_neighbour, absorbs, absorbed, newborn}
use Rattle.model.specs.Laws.Body.{birth_in, absorbing_in}
use Rattle.db_micro.specs.Held.{cut_to}
use Rattle.db_neighbours.specs.Near.{distances_to, absorb_near}

-- ---- the neighbours
abbrev pub is_near : (r : Float) (x : List Float) (d : ℕ) → DbMicro → Bool
is_near r x d m = is_neighbour r x (cut_to d m)

pub neighbours_view :
    (r : Float) (x : List Float) (d : ℕ) (l : List DbMicro) →
    map id_of (retain (is_near r x d) l) ≡ map id_of (retain (is_neighbour r x) (map (cut_to d) l))
neighbours_view r x d l = sym (map-map id_of (cut_to d) (retain (is_near r x d) l)) ∙ ap (map id_of) (map_retain (cut_to d) (is_neighbour r x) l)

-- ---- a point of as many coordinates
module _ (d : ℕ) (x : List Float) (e : length x ≡ d) where
  absorbs_view : (lambda t : Float) (m : DbMicro) → cut_to d (absorbs lambda t x m) ≡ absorbs lambda t x (cut_to d m)
  absorbs_view lambda t m =
      ap (λ (b : Body). record { body = b; id = m.id }) (absorbing_in d t x e lambda m.body)

  pub absorb_view :
      (r lambda t : Float) (l : List DbMicro) →
      map (cut_to d) (absorb_near (r ⊗ r) (absorbs lambda t x) (distances_to x (map (cut_to d) l)) l) ≡ map (absorbed r lambda t x) (map (cut_to d) l)
  unfolding absorb_near
  absorb_view r lambda t [] = refl
  absorb_view r lambda t (m ∷ ms) = ap₂ ◌∷◌ (one (is_neighbour r x (cut_to d m))) (absorb_view r lambda t ms)
    where
      one : (b : Bool) → cut_to d (cond b (absorbs lambda t x m) m) ≡ cond b (absorbs lambda t x (cut_to d m)) (cut_to d m)
      one true = absorbs_view lambda t m
      one false = refl

  pub newborn_view : d ≤ max_dim → (t : Float) (id : MicroId) → cut_to d (newborn max_dim id t x) ≡ newborn d id t x
  newborn_view h t id =
      ap (λ (b : Body). record { body = b; id = id }) (birth_in d t x e h)
