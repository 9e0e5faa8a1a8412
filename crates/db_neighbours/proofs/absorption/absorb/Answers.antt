-- `absorb` meets its contract. Assumes nothing.
use Rattle.std.proofs.Common.{◌≡◌, ℕ, ◌+◌, ◌<◌, true, false, List, [], ◌++◌, length, take, drop, get_or, set, sym, ap, ◌∙◌, add-one, take-suc, take-suc-set, drop-cons, drop-set-lt, arith}
use Rattle.std.proofs.lemmas.List.{drop_all, take-append-drop}
use lib.Seq.{append_snoc}
use lib.Ieee.{Float, le, nan}
use Rattle.float.specs.Rounded.{◌⊗◌}
use Rattle.lists.specs.Laws.Rest.{any_of}
use Rattle.model.specs.declared.micro.DbMicro.{DbMicro}
use Rattle.model.specs.DbInsert.{absorbs}
use Rattle.db_neighbours.specs.Near.{absorb_near}
use Rattle.db_neighbours.proofs.absorption.absorb.Goals.{then-d-r2, else-d-r2}
use Rattle.db_neighbours.proofs.absorption.absorb.Goals as goal

-- ---- `if ds[i] <= r2 { ms[i] = f(ms[i]); }` for i from 0
module _ (r2 : Float) (f : DbMicro → DbMicro) (i : ℕ) (ds : List Float) (ms : List DbMicro) (z : DbMicro) (hd : i < length ds) (hm : i < length ms) where
  takes :
      (v : DbMicro) → v ≡ f (get_or ms i z) → le (get_or ds i nan) r2 ≡ true →
      take (i + 1) (set ms i v) ++ absorb_near r2 f (drop (i + 1) ds) (drop (i + 1) (set ms i v)) ≡ take i ms ++ absorb_near r2 f (drop i ds) (drop i ms)
  unfolding absorb_near
  takes v e t =
      let b : i < i + 1 = omega arith in
      rw (drop-cons ds i nan, drop-cons ms i z, t, ← e, drop-set-lt (i + 1) ms i v, add-one, take-suc-set ms i v, append_snoc (take i ms) v)

  skips :
      le (get_or ds i nan) r2 ≡ false →
      take (i + 1) ms ++ absorb_near r2 f (drop (i + 1) ds) (drop (i + 1) ms) ≡ take i ms ++ absorb_near r2 f (drop i ds) (drop i ms)
  unfolding absorb_near
  skips t = rw (drop-cons ds i nan, drop-cons ms i z, t, add-one, take-suc ms i z, append_snoc (take i ms) (get_or ms i z))

pub loop-i-preserved : goal.loop-i-preserved
loop-i-preserved c =
    let k = c.loop-i in
    let h = c.loop-i-test.true in
    let m : k.i < length k.micros = omega (arith, c.requires, k.auto.micros) in
    elim c.if-d-r2.branch [
      | then-d-r2 w ↦ rw w.micros-is (takes _ _ k.i _ k.micros _ h m _ w.absorbed.ensures w.if-d-r2.true ∙ k.invariant)
      | else-d-r2 w ↦ rw w.micros-is (skips _ _ k.i _ k.micros (any_of k.micros (omega (arith, m))) h m w.if-d-r2.false ∙ k.invariant)
    ]

pub returns : goal.returns
unfolding absorb_near
returns c =
    let k = c.loop-i in
    let a = c.args in
    let done : drop k.i a.distances.now ≡ [] = drop_all k.i a.distances.now c.loop-i-test.false in
    sym (ap (λ (ds : List Float). take k.i k.micros ++ absorb_near (a.r ⊗ a.r) (absorbs a.lambda a.t a.x.now) ds (drop k.i k.micros)) done ∙ take-append-drop k.i k.micros) ∙ k.invariant
