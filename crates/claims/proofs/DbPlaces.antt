-- The place at which a creation number stands.
use Prim.Native.Nat.{ℕ, zero, suc, ◌<◌}
use mathlib.Core.Path.{◌≡◌, refl, sym, ap, ◌∙◌}
use mathlib.Core.Bool.{Bool, true, false, cond}
use mathlib.Core.List.{List, [], ◌∷◌}
use mathlib.Core.Option.{some}
use native.Mathlib.Omega.{arith}
use lib.Dec.{eqb}
use borrow.Author.Tests.{eq-eqb, ne_eqb, eqb-true}
use Rattle.model.specs.declared.micro.MicroId.{MicroId}
use Rattle.model.specs.declared.micro.DbMicro.{DbMicro}
use Rattle.model.specs.DbCluster.{place_of}
use Rattle.claims.specs.Lists.{At, Ascending}
use Rattle.claims.specs.DbClaims.{Older}
use Rattle.claims.proofs.Places.{not_none, at_in, each_in}

-- what stands at the place of a number has this number
pub place_at : (ms : List DbMicro) (a : MicroId) (m : DbMicro) → At ms (place_of ms a) m → m.id.0 ≡ a.0
unfolding place_of
place_at [] a m h = absurd (not_none h)
place_at (n ∷ ms) a m h = go (eqb n.id.0 a.0) refl h (place_at ms a m)
  where
    go : (b : Bool) → eqb n.id.0 a.0 ≡ b → At (n ∷ ms) (cond b 0 (suc (place_of ms a))) m → (At ms (place_of ms a) m → m.id.0 ≡ a.0) → m.id.0 ≡ a.0
    go true e k ih =
        let q : some n ≡ some m = k in
        let r : n ≡ m = cc in
        ap (λ (u : DbMicro). u.id.0) (sym r) ∙ eqb-true n.id.0 a.0 e
    go false e k ih = ih k

-- where the numbers ascend, each stands at its own place
pub own_place : (ms : List DbMicro) → Ascending Older ms → (i : ℕ) (m : DbMicro) → At ms i m → place_of ms m.id ≡ i
unfolding place_of
own_place [] u i m h = absurd (not_none h)
own_place (n ∷ ms) u zero m h =
    let q : some n ≡ some m = h in
    let r : n ≡ m = cc in
    ap (λ (b : Bool). cond b 0 (suc (place_of ms m.id))) (eq-eqb n.id.0 m.id.0 (ap (λ (u : DbMicro). u.id.0) r))
own_place (n ∷ ms) u (suc i) m h =
    let l : n.id.0 < m.id.0 = each_in (Older n) ms m u.0 (at_in ms i m h) in
    let other : eqb n.id.0 m.id.0 ≡ false = ne_eqb n.id.0 m.id.0 (λ (q : n.id.0 ≡ m.id.0). omega arith) in
    ap (λ (b : Bool). cond b 0 (suc (place_of ms m.id))) other ∙ ap suc (own_place ms u.1 i m h)
