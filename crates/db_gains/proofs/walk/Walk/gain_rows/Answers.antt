-- `gain_rows` meets its contract. Assumes nothing.
use Rattle.std.proofs.Common.{◌≡◌, ◌≤◌, ◌+◌, ◌∷◌, ◌++◌, ℕ, List, [], length, map, take, drop, get_or, refl, sym, ap, ◌∙◌, add-one, drop-cons, arith}
use Rattle.std.proofs.lemmas.List.{drop_all, take_rest}
use mathlib.Core.List.{foldl}
use Rattle.lists.specs.Laws.Rest.{drop_on}
use Rattle.model.specs.declared.link.Link.{Link}
use Rattle.model.specs.declared.micro.MicroId.{MicroId}
use Rattle.model.specs.DbInsert.{pair_of, pairs_of}
use Rattle.db_gains.specs.declared.walk.Walk.{Walk}
use Rattle.db_gains.specs.Walk.{pair_walked, pairs_walked}
use Rattle.db_gains.proofs.walk.Walk.gain_rows.Goals as goal

module _ {A B : Type 0} (f : B → A → B) where
  foldl_append : (s : B) (xs ys : List A) → foldl f s (xs ++ ys) ≡ foldl f (foldl f s xs) ys
  foldl_append s [] ys = refl
  foldl_append s (x ∷ xs) ys = foldl_append (f s x) xs ys

-- the pairs of one and those after it, and then theirs
row :
    {S : Type 0} (f : S → MicroId × MicroId → S) (s new : S) (ids : List MicroId) (i : ℕ) (z : MicroId) →
    i + 1 ≤ length ids →
    new ≡ foldl f s (map (pair_of (get_or ids i z)) (drop (i + 1) ids)) →
    foldl f new (pairs_of (drop (i + 1) ids)) ≡ foldl f s (pairs_of (drop i ids))
unfolding pairs_of
row {S} f s new ids i z h e =
    let a : MicroId = get_or ids i z in
    let first : drop i ids ≡ a ∷ drop (i + 1) ids = drop-cons ids i z (omega (arith, h)) ∙ ap (λ m. a ∷ drop m ids) (sym (add-one i)) in
    ap (λ (r : S). foldl f r (pairs_of (drop (i + 1) ids))) e
    ∙ sym (foldl_append f s (map (pair_of a) (drop (i + 1) ids)) (pairs_of (drop (i + 1) ids)))
    ∙ ap (λ (r : List MicroId). foldl f s (pairs_of r)) (sym first)

pub loop-i-preserved : goal.loop-i-preserved
loop-i-preserved c =
    let a = c.args in
    let now = c.gain_row-count.ensures in
    let ids = a.ids.now in
    let i = c.loop-i.i in
    let old : Walk × List Link = (c.loop-i.self, take c.loop-i.count c.loop-i.links) in
    record {
      ready = now.ready;
      few = now.few;
      rest = now.rest ∙ drop_on c.loop-i.count c.gain_row-count.result c.loop-i.links a.links.now now.more c.loop-i.invariant.rest;
      left = row (pair_walked a.lambda a.t) old _ ids i (record { 0 = 0 }) (omega (arith, c.loop-i-test.true))
          (now.walked ∙ ap (λ (r : List MicroId). pairs_walked a.lambda a.t old (map (pair_of (get_or ids i (record { 0 = 0 }))) r)) (take_rest ids (i + 1)))
          ∙ c.loop-i.invariant.left;
    }

pub returns-clause-walked : goal.returns-clause-walked
unfolding pairs_of
returns-clause-walked c =
    let a = c.args in
    let now : Walk × List Link = (c.loop-i.self, take c.loop-i.count c.loop-i.links) in
    sym (ap (λ (r : List MicroId). pairs_walked a.lambda a.t now (pairs_of r)) (drop_all c.loop-i.i a.ids.now c.loop-i-test.false)) ∙ c.loop-i.invariant.left
