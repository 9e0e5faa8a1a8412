-- `is_held` meets its contract. Assumes nothing.
use Rattle.std.proofs.Common.{◌≡◌, refl, ap, ◌∙◌, Bool, ◌||◌, List, [], ◌∷◌}
use Rattle.std.specs.List.{list_any}
use Rattle.model.specs.Any.{any}
use Rattle.db_link.proofs.stay.is_held.Goals as goal

any_is : {A : Type 0} (p : A → Bool) (xs : List A) → list_any p xs ≡ any p xs
unfolding any
any_is p [] = refl
any_is p (x ∷ xs) = ap (λ (b : Bool). p x || b) (any_is p xs)

pub returns : goal.returns
returns c = c.some_has.ensures ∙ any_is _ c.args.micros.now
