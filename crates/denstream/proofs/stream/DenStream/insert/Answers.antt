-- `DenStream::insert` meets its contract. Assumes nothing.
use mathlib.Core.Path.{◌≡◌, refl, sym, ap, ap₂, ◌∙◌}
use mathlib.Core.Bool.{true}
use mathlib.Core.List.{List}
use native.Mathlib.Omega.{arith}
use lib.Ieee.{Float}
use lib.ListN.{length, take}
use borrow.Author.Rules.{rules}
use Rattle.std.specs.Result.{is_ok}
use Rattle.model.specs.declared.micro.DenMicro.{DenMicro}
use Rattle.model.specs.Answers.{is_done}
use Rattle.model.specs.Laws.Insert.{point_is}
use Rattle.model.specs.DenState.{State}
use Rattle.model.specs.Denstream.{tick_of}
use Rattle.den_pool.specs.Held.{settled_of}
use Rattle.den_placement.specs.Pools.{pools_in}
use Rattle.den_placement.specs.Placing.{placement_of}
use Rattle.denstream.specs.View.{view, dim_of, held_in}
use Rattle.model.proofs.Laws.Numbers.{error_refuses}
use Rattle.denstream.proofs.Inserts.{Met, all_looked_at, ready, refused, placeless, taken}
use Rattle.denstream.proofs.stream.DenStream.insert.Goals.{After-place-placement, In_ok-insertion_asked}
use Rattle.denstream.proofs.stream.DenStream.insert.Goals as goal

-- what is known once the point is placed: the array has its coordinates
met : (c : goal.After-place-placement) → Met c.args.self.now c.args.x.now c.place-placement.result
unfolding held_in
met c = λ h.
    let s = c.args.self.now in
    let x = c.args.x.now in
    let d = c.dim-dim.result in
    let y = take d c.padded-point.result in
    let same : y ≡ x = point_is x c.padded-point.result d (h ∙ sym c.dim-dim.ensures) (omega (arith, c.dim-dim.ensures)) c.padded-point.ensures in
    all_looked_at s.params s.t y _ _ c.place-placement.result (ap (λ (z : List Float). length z) same ∙ h) c.place-placement.ensures
    ∙ ap₂ (λ (a b : List DenMicro). placement_of (settled_of s.params) s.t (pools_in (dim_of s) a b) y) c.potential.ensures c.outliers.ensures
    ∙ ap (placement_of (settled_of s.params) s.t (view s).held) same

pub returns-in_err-insertion_asked-clause-told : goal.returns-in_err-insertion_asked-clause-told
returns-in_err-insertion_asked-clause-told c =
    let same : c.from_residual.result ≡ c.insertion_asked.result = search rules in
    refused c.args.self.now c.args.x.now c.dim-dim.result c.dim-dim.ensures c.insertion_asked.result c.insertion_asked.ensures
    (ap is_done c.in_err-insertion_asked.was ∙ error_refuses _) _ same

-- the point and the clock are well
done : (c : goal.In_ok-insertion_asked) → is_done c.insertion_asked.result ≡ true
done c = ap is_done c.in_ok-insertion_asked.was

pub returns-in_default-clause-told : goal.returns-in_default-clause-told
returns-in_default-clause-told c =
    let at = goal.at.returns-in_default-clause-told c in
    placeless c.args.self.now c.args.x.now c.dim-dim.result c.dim-dim.ensures c.insertion_asked.result c.insertion_asked.ensures
    (done at.In_ok-insertion_asked) c.place-placement.result (met at.After-place-placement) (ap is_ok c.in_default.is) _ refl

pub put-requires : goal.put-requires
put-requires c =
    let at = goal.at.put-requires c in
    ready c.args.self.now c.args.x.now c.dim-dim.result c.dim-dim.ensures c.insertion_asked.result c.insertion_asked.ensures
    (done at.In_ok-insertion_asked) c.place-placement.result (met at.After-place-placement) _ c.in-Ok.is

pub returns-clause-told : goal.returns-clause-told
returns-clause-told c =
    let at = goal.at.returns-clause-told c in
    taken c.args.self.now c.args.x.now c.dim-dim.result c.dim-dim.ensures c.insertion_asked.result c.insertion_asked.ensures
    (done at.In_ok-insertion_asked) c.place-placement.result (met at.After-place-placement) _ c.in-Ok.is
    _ (c.advance.ensures ∙ ap (λ (v : State). tick_of v c.place-placement.result.near) c.put.ensures)
