-- `each` meets its contract. Assumes nothing.
use Rattle.std.proofs.Common.{rules, ◌≡◌, ℕ, ◌+◌, ◌<◌, min, refl, ap, ◌∙◌, sym, length, take, map, set, List, slice_index_or, arith, add-one, length-set}
use Rattle.std.proofs.lemmas.List.{length-replicate, length-take, get_or-take}
use Rattle.std.proofs.Math.Seq.{take-suc, take-suc-set}
use Rattle.std.proofs.lemmas.Fn.{says_at}
use Rattle.lists.specs.Laws.Maps.{map_append}
use Rattle.lists.specs.Laws.Rest.{take_min}
use Rattle.lists.proofs.each.Goals as goal

module _ {A B : Type 0} (f : A → B) (xs : List A) (out : List B) (i : ℕ) (before : take i out ≡ map f (take i xs)) where
  -- one more is written
  goes : (v : B) (z : A) → i < length xs → i < length out → v ≡ f z → z ≡ slice_index_or xs i z → take (i + 1) (set out i v) ≡ map f (take (i + 1) xs)
  goes v z h o e ez = rw (add-one, take-suc-set out i v, take-suc xs i z, map_append f (take i xs) _, before, e ∙ ap f ez)

  -- all are written
  ends : (m : ℕ) → length out ≡ m → i ≡ min (length xs) m → take (length xs) out ≡ map f (take m xs)
  ends m o is =
      let other : i ≡ min m (length xs) = omega (arith, is) in
      sym (take_min (length xs) m out o) ∙ ap (λ (n : ℕ). take n out) (sym is) ∙ before
      ∙ ap (map f) (ap (λ (n : ℕ). take n xs) other ∙ take_min m (length xs) xs refl)

pub loop-i-init : goal.loop-i-init
loop-i-init g c = (length-replicate g.row.N c.args.none, λ f says. refl)

pub loop-i-preserved : goal.loop-i-preserved
loop-i-preserved g c =
    let at = c.loop-i in
    let xs = c.args.items.now in
    let item = c.item-item in
    let low : at.i < c.min.result = omega (arith, c.loop-i-test.true, length-take c.min.result xs) in (
      length-set at.all at.i c.part.result ∙ at.invariant.0,
      λ f says. goes f xs at.all at.i (at.invariant.1 f says) c.part.result item.result (search rules) (omega (arith, at.invariant.0, c.min.ensures))
          (says _ _ (says_at g.F.Fn c.part.ensures refl)) (item.is ∙ get_or-take c.min.result xs at.i item.result low),
    )

pub returns : goal.returns
returns g c =
    let at = c.loop-i in
    λ f says. ends f c.args.items.now at.all at.i (at.invariant.1 f says) g.row.N at.invariant.0 (search rules)
