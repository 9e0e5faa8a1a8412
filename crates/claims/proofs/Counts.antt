-- A label is −1 or a count.
use Prim.Native.Nat.{ℕ, zero, suc}
use mathlib.Core.Path.{◌≡◌, refl}
use mathlib.Core.Logic.{◌⊎◌, inl, inr}
use mathlib.Core.Bool.{Bool, true, false, cond}
use mathlib.Core.List.{List, [], ◌∷◌}
use lib.IntN.{ℤ, pos, negsuc}
use Rattle.labels.specs.Label.{place_in, labels_from, labels_of}
use Rattle.labels.proofs.Laws.Label.{label_at, met_by}

-- −1, or a count from 0
abbrev pub Counted : ℤ → Type 0
Counted k = (k ≡ negsuc 0) ⊎ ((c : ℕ) × (k ≡ pos c))

from_counted : (us : List ℕ) (bs : List Bool) (rs : List ℕ) (i : ℕ) → Counted (label_at (labels_from us bs rs) i)
unfolding labels_from
from_counted us [] rs i = inl refl
from_counted us (b ∷ bs) [] i = inl refl
from_counted us (b ∷ bs) (r ∷ rs) zero = go b
  where
    go : (t : Bool) → Counted (cond t (pos (place_in r us)) (negsuc 0))
    go true = inr (place_in r us, refl)
    go false = inl refl
from_counted us (b ∷ bs) (r ∷ rs) (suc i) = from_counted (met_by us b r) bs rs i

pub labels_counted : (mask : List Bool) (roots : List ℕ) (i : ℕ) → Counted (label_at (labels_of mask roots) i)
unfolding labels_of
labels_counted mask roots i = from_counted [] mask roots i
