-- `nearest_by` meets its contract. Assumes nothing.
use Rattle.std.proofs.Common.{refl, sym, ap, ◌∙◌, ◌≡◌, Bool, Some}
use Rattle.std.specs.Float.Ieee.{lt}
use Rattle.std.proofs.lemmas.Fn.{says_at}
use Rattle.readout.proofs.Search.{found_none, found_first, found_next, found_end}
use Rattle.readout.proofs.distances.nearest_by.Goals.{then-dist-found, else-dist-found}
use Rattle.readout.proofs.distances.nearest_by.Goals as goal

pub returns-in_err-first : goal.returns-in_err-first
returns-in_err-first g c = λ d a. c.from_residual.ensures ∙ found_none d c.args.items.now c.in_err-first.ensures.cases

pub loop-i-init : goal.loop-i-init
loop-i-init g c =
    let at = c.in_ok-first in
    λ d a. found_first d c.args.items.now at.first.now at.rest.now c.distance.result at.ensures.cases.0 (a _ _ (says_at g.F.Fn c.distance.ensures refl))

pub loop-i-preserved : goal.loop-i-preserved
loop-i-preserved g c =
    let at = c.loop-i in
    let rest = c.in_ok-first.rest.now in
    let item = c.index-rest-i in
    λ d a.
    let said : c.distance-dist.result ≡ d item.result = a _ _ (says_at g.F.Fn c.distance-dist.ensures refl) in
    let next = λ (t : Bool) (e : lt c.distance-dist.result at.found.dist ≡ t).
    ap Some (found_next d rest at.found at.i item.result c.distance-dist.result t c.loop-i-test.true item.is said e) ∙ at.invariant d a in
    elim c.if-dist-found.branch [
      | then-dist-found w ↦ rw w.found-is (next _ w.if-dist-found.true)
      | else-dist-found w ↦ rw w.found-is (next _ w.if-dist-found.false)
    ]

pub returns : goal.returns
returns g c =
    let at = c.loop-i in
    λ d a. sym (ap Some (found_end d c.in_ok-first.rest.now at.found at.i c.loop-i-test.false)) ∙ at.invariant d a
