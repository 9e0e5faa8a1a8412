-- `Each` of what follows, and of one list after another. Assumes nothing.
use Rattle.std.specs.Prelude.{List, [], ◌∷◌, ◌++◌}
use Rattle.lists.specs.Each.{Each}

module _ {A : Type 0} where
  -- what follows from P holds wherever P does
  pub each_more : {P Q : A → Type 0} → ((a : A) → P a → Q a) → (l : List A) → Each P l → Each Q l
  each_more f [] e = tt
  each_more f (a ∷ l) e = (f a e.0, each_more f l e.1)

  -- of two lists one after the other
  pub each_append : (P : A → Type 0) (l k : List A) → Each P l → Each P k → Each P (l ++ k)
  each_append P [] k d e = e
  each_append P (a ∷ l) k d e = (d.0, each_append P l k d.1 e)
