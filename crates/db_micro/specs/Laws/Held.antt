-- The micro-clusters of an array and those of dim coordinates that they are have the same creation numbers. Assumes nothing.
use Rattle.std.specs.Prelude.{◌≡◌, ℕ, Bool, not, ◌&&◌, ◌||◌, cond, List, [], ◌∷◌, map, nat_eq, Float}
use Rattle.std.proofs.Math.Path.{refl, ap₂}
use Rattle.std.proofs.Common.{ap}
use Rattle.std.specs.Float.Ieee.{lt}
use Rattle.lists.specs.Retain.{retain}
use Rattle.model.specs.Any.{any}
use Rattle.model.specs.declared.micro.MicroId.{MicroId}
use Rattle.model.specs.declared.micro.DbMicro.{DbMicro}
use Rattle.model.specs.declared.link.Link.{Link}
use Rattle.model.specs.DbInsert.{faded_link, is_held, link_stays}
use Rattle.db_micro.specs.Held.{cut_to}

-- one of them is held where it is
pub held_view : (dim : ℕ) (ms : List DbMicro) (id : MicroId) → is_held ms id ≡ is_held (map (cut_to dim) ms) id
unfolding any
held_view dim [] id = refl
held_view dim (m ∷ ms) id = ap (λ (b : Bool). nat_eq m.id.0 id.0 || b) (held_view dim ms id)

-- the links that a cleanup keeps are the same
pub links_view :
    (lambda floor t : Float) (dim : ℕ) (ms : List DbMicro) (ls : List Link) →
    retain (link_stays lambda floor t ms) ls ≡ retain (link_stays lambda floor t (map (cut_to dim) ms)) ls
unfolding retain
links_view lambda floor t dim ms [] = refl
links_view lambda floor t dim ms (l ∷ ls) =
    ap₂ (λ (b : Bool) (r : List Link). cond b (l ∷ r) r)
    (ap₂ (λ (a b : Bool). a && b && not (lt (faded_link lambda t l) floor)) (held_view dim ms l.lo) (held_view dim ms l.hi))
    (links_view lambda floor t dim ms ls)
