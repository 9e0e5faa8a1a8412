-- The finds of a cluster are two a join, one for each that is sought, and of few steps, wherever the pairs due are places of those held.
use Prim.Native.Nat.{ℕ, suc, ◌+◌, ◌<◌, ◌≤◌, min}
use mathlib.Core.Path.{◌≡◌, refl, ap, ◌∙◌}
use mathlib.Core.Bool.{Bool, true, false, cond}
use mathlib.Core.List.{List, [], ◌∷◌, map}
use native.Mathlib.Omega.{arith}
use lib.ListN.{length}
use Rattle.lists.specs.Each.{Each}
use Rattle.lists.specs.Laws.Each.{each_more}
use Rattle.lists.specs.Retain.{retain}
use Rattle.union_find.specs.Steps.{places_from}
use Rattle.union_find.proofs.Laws.Steps.{no_find_above_3, finds_count}
use Rattle.model.specs.Limits.{micros_most}
use Rattle.model.specs.Stream.{State, Kind}
use Rattle.claims.specs.Lists.{PairBefore, Ascending}
use Rattle.claims.specs.Finds.{FindsTold}

-- a place for each that passes
pub places_count : {A : Type 0} (p : A → Bool) (i : ℕ) (l : List A) → length (places_from i (map p l)) ≡ length (retain p l)
unfolding places_from retain
places_count p i [] = refl
places_count p i (a ∷ l) = go (p a) (places_count p (i + 1) l)
  where
    go :
        (t : Bool) → length (places_from (i + 1) (map p l)) ≡ length (retain p l) →
        length (cond t (i ∷ places_from (i + 1) (map p l)) (places_from (i + 1) (map p l))) ≡ length (cond t (a ∷ retain p l) (retain p l))
    go true e = ap suc e
    go false e = e

-- the lower place first, and both are places of n
abbrev pub Within : ℕ → ℕ × ℕ → Type 0
Within n e = (e.0 < e.1) × (e.1 < n)

module _ {S P H : Type 0} (k : Kind S P H) (s : State P H) where
  pub finds_told :
      length (k.sought s) ≤ micros_most →
      (n : ℕ) →
      length (places_from 0 (k.sought s)) ≡ n →
      Ascending PairBefore (k.pairs_due s) →
      Each (Within (length (k.sought s))) (k.pairs_due s) →
      FindsTold k s n
  finds_told few n count asc within =
      record {
        ascending = asc;
        lower_first = each_more (λ (e : ℕ × ℕ) w. w.0) (k.pairs_due s) within;
        finds = finds_count (k.sought s) (k.pairs_due s) (each_more low (k.pairs_due s) within) ∙ omega (arith, count);
        few = no_find_above_3 (k.sought s) (k.pairs_due s) few;
      }
    where
      low : (e : ℕ × ℕ) → Within (length (k.sought s)) e → (e.0 < min (length (k.sought s)) 64) × (e.1 < min (length (k.sought s)) 64)
      low e w = (omega (arith, w.0, w.1), omega (arith, w.1))
