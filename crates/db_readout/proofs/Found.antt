-- What is said of the first element that a search finds. Assumes nothing.
use Rattle.std.proofs.Common.{◌≡◌, refl, Bool, true, false, cond, List, [], ◌∷◌, Some, find}
use Rattle.std.specs.Option.{option_map_or}
use Rattle.lists.specs.Search.{first_of}

pub first_found : {A B : Type 0} (p : A → Bool) (f : A → B) (d : B) (xs : List A) → option_map_or f (find p xs) d ≡ first_of p f d xs
unfolding first_of
first_found p f d [] = refl
first_found {A} {B} p f d (x ∷ xs) = go (p x) (first_found p f d xs)
  where
    go : (b : Bool) → option_map_or f (find p xs) d ≡ first_of p f d xs → option_map_or f (cond b (Some x) (find p xs)) d ≡ cond b (f x) (first_of p f d xs)
    go true more = refl
    go false more = more
