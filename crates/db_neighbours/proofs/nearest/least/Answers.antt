-- `least` meets its contract. Assumes nothing.
use Rattle.std.proofs.Common.{rules, ◌≡◌, refl, sym, ap, ◌∙◌, List, [], ◌∷◌, length, arith, fold, Some, None, Float}
use mathlib.Core.List.{foldl}
use Rattle.float.specs.Order.{smaller}
use Rattle.model.specs.DbInsert.{least_of}
use Rattle.db_neighbours.proofs.nearest.least.Goals as goal

fold_is : {A B : Type 0} (f : B → A → B) (s : B) (xs : List A) → fold f s xs ≡ foldl f s xs
fold_is f s [] = refl
fold_is f s (x ∷ xs) = fold_is f (f s x) xs

none : (ds : List Float) → length ds ≡ 0 → None ≡ least_of ds
unfolding least_of
none [] e = refl
none (d ∷ ds) e = absurd (omega (arith, e))

pub returns-in_err-first : goal.returns-in_err-first
returns-in_err-first c =
    let left : c.from_residual.result ≡ None = search rules in
    left ∙ none c.args.distances.now c.in_err-first.ensures.cases

pub returns : goal.returns
unfolding least_of
returns c = ap Some (c.least_with.ensures ∙ fold_is smaller c.in_ok-first.first.now c.in_ok-first.rest.now) ∙ sym (ap least_of c.in_ok-first.ensures.cases.0)
