-- The labels that the joined pairs give, and the finds that they take. Assumes nothing.
use Prim.Native.Nat.{ℕ, ◌≤◌, min}
use mathlib.Core.Path.{◌≡◌, ap, ◌∙◌}
use mathlib.Core.List.{List}
use mathlib.Core.Bool.{Bool}
use lib.IntN.{ℤ}
use lib.ListN.{length, take}
use Rattle.std.proofs.lemmas.List.{take_min, take_all}
use Rattle.union_find.specs.Forest.{places, roots_in}
use Rattle.union_find.specs.Steps.{find_steps, work_by}
use Rattle.union_find.specs.declared.forest.Work.{Work}
use Rattle.union_find.proofs.Laws.Root.{sought_length}
use Rattle.labels.specs.Label.{labels_of, labels_in}
use Rattle.labels.proofs.Laws.Label.{labels_first, labels_sought}
use Rattle.model.specs.Families.{labels_by}

-- a list cut to its own length as well
pub cut_same : {A : Type 0} (k n : ℕ) (l : List A) → k ≡ min n (length l) → take k l ≡ take n l
cut_same k n l e = rw e (take_min n l)

-- of at most all places some are strong, and the pairs ps are joined
module _ (strong : List Bool) (few : length strong ≤ places) (ps : List (ℕ × ℕ)) where
  whole : take places strong ≡ strong
  whole = take_all places strong few

  pub worked : (w : Work) → w ≡ work_by (find_steps (take places strong) ps) → w ≡ work_by (find_steps strong ps)
  worked w e = e ∙ ap (λ (bs : List Bool). work_by (find_steps bs ps)) whole

  pub labelled : (roots : List ℕ) (r : List ℤ) → roots ≡ roots_in (take places strong) ps → r ≡ labels_in roots strong → take (length strong) r ≡ labels_by strong ps
  unfolding labels_by
  labelled roots r er e =
      let all : roots ≡ roots_in strong ps = er ∙ ap (λ (bs : List Bool). roots_in bs ps) whole in
      ap (take (length strong)) e ∙ labels_first roots strong few (ap length all ∙ sought_length strong ps) ∙ ap (labels_of strong) all
      ∙ labels_sought strong strong ps few (λ i h. h)
