-- `try_merge` meets its contract. Assumes nothing.
use Prim.Native.Nat.{◌<◌}
use mathlib.Core.Path.{◌≡◌, refl, sym, ◌∙◌}
use mathlib.Core.Bool.{true, false}
use native.Mathlib.Omega.{arith}
use lib.ListN.{length}
use borrow.Author.Rules.{rules}
use Rattle.feature.specs.Distance.{sq_dist}
use Rattle.model.specs.Nearest.{nearest_of}
use Rattle.readout.specs.Found.{found_of}
use Rattle.den_pool.specs.Held.{distance_of}
use Rattle.den_pool.proofs.Tries.{measured_in, tried_none, found_here, tried_some}
use Rattle.den_pool.proofs.trial.try_merge.Goals.{After-nearest_by-nearest, In-Some}
use Rattle.den_pool.proofs.trial.try_merge.Goals as goal

-- the nearest by the distances of what is seen
least : (c : goal.After-nearest_by-nearest) → let a = c.args in
    c.nearest_by-nearest.result ≡ found_of (nearest_of (distance_of (length a.x.now) a.x.now) a.pool.now)
least c =
    let a = c.args in
    c.nearest_by-nearest.ensures _ (λ m v k. let e : v ≡ sq_dist m.body.cf.mean a.x.now = search rules in e ∙ measured_in a.x.now m)

pub returns-in_default : goal.returns-in_default
returns-in_default c =
    let a = c.args in
    tried_none a.params.now a.t a.x.now a.pool.now _ (least (goal.at.returns-in_default c).After-nearest_by-nearest) c.in_default.is
    _ c.newborn.ensures

-- it stands in the pool
here : (c : goal.In-Some) → c.in-Some.found.place < length c.args.pool.now
here c =
    let a = c.args in
    found_here a.params.now a.t a.x.now a.pool.now _ (least (goal.at.In-Some c).After-nearest_by-nearest) _ c.in-Some.is

pub offset_bounds-pool-place : goal.offset_bounds-pool-place
offset_bounds-pool-place c = omega (arith, here c)

pub bounds-pool-place : goal.bounds-pool-place
bounds-pool-place c = here c

pub returns-then-stands : goal.returns-then-stands
returns-then-stands c =
    let a = c.args in
    tried_some a.params.now a.t a.x.now a.pool.now _ (least (goal.at.returns-then-stands c).After-nearest_by-nearest) _ c.in-Some.is
    _ _ true _ c.absorbed-micro.ensures (sym c.if-stands.true ∙ c.stands.ensures) refl

pub returns-else-stands : goal.returns-else-stands
returns-else-stands c =
    let a = c.args in
    tried_some a.params.now a.t a.x.now a.pool.now _ (least (goal.at.returns-else-stands c).After-nearest_by-nearest) _ c.in-Some.is
    _ _ false _ c.absorbed-micro.ensures (sym c.if-stands.false ∙ c.stands.ensures) refl
