-- A bucket leaves the arrays: the newer ones move down by one place. Assumes nothing.
use Rattle.std.proofs.Common.{◌≡◌, ℕ, ◌+◌, ◌-◌, ◌<◌, ◌≤◌, List, ◌++◌, length, take, drop, sym, ap, ap₂, ◌∙◌, arith, add-one, take-take, length-take-le, length-drop}
use Rattle.std.proofs.lemmas.List.{drop-take}
use Rattle.std.proofs.lemmas.List.Edits.{take-paste}
use Rattle.std.specs.List.{copy_within, remove}
use Rattle.adwin_buckets.specs.declared.bucket.Bucket.{Bucket}
use Rattle.adwin.specs.Buckets.{Classed}
use Rattle.adwin.specs.View.{classed}
use Rattle.adwin.proofs.Classes.{classed_length, classed_take, classed_drop, classed_append}

module _ {X : Type 0} (n i : ℕ) (l : List X) (h : i < n) (k : n ≤ length l) where
  -- the first n - 1 places, once those from i + 1 to n have moved down
  moved : take (n - 1) (copy_within l (i + 1) n i) ≡ take i l ++ take (n - (i + 1)) (drop (i + 1) l)
  moved =
      let e : n - 1 ≡ i + (n - (i + 1)) = omega arith in
      let b : n - (i + 1) ≤ length (drop (i + 1) l) = omega (arith, length-drop (i + 1) l) in
      ap (λ (m : ℕ). take m (copy_within l (i + 1) n i)) e ∙ take-paste l i (drop (i + 1) l) (n - (i + 1)) (omega arith) b

  -- the first n places without the one at i
  removed : take i l ++ take (n - (i + 1)) (drop (i + 1) l) ≡ remove (take n l) i
  removed =
      let e : i + 1 + (n - (i + 1)) ≡ n = omega arith in
      ap₂ (λ (a r : List X). a ++ r) (sym (take-take i n l (omega arith)))
      (sym (drop-take (i + 1) (n - (i + 1)) l) ∙ ap (λ (m : ℕ). drop (i + 1) (take m l)) e ∙ ap (λ (m : ℕ). drop m (take n l)) (add-one i))

-- the same of both arrays as one row
pub gap_closed :
    (n i : ℕ) (cs : List ℕ) (bs : List Bucket) →
    i < n →
    n ≤ length bs →
    length cs ≡ length bs →
    take (n - 1) (classed (copy_within cs (i + 1) n i) (copy_within bs (i + 1) n i)) ≡ remove (take n (classed cs bs)) i
gap_closed n i cs bs h k e =
    let m = n - (i + 1) in
    let o : n ≤ length cs = omega arith in
    let t : length (take i cs) ≡ length (take i bs) = length-take-le i cs (omega arith) ∙ sym (length-take-le i bs (omega arith)) in
    classed_take (n - 1) (copy_within cs (i + 1) n i) (copy_within bs (i + 1) n i)
    ∙ ap₂ classed (moved n i cs h o) (moved n i bs h k)
    ∙ classed_append (take i cs) (take i bs) (take m (drop (i + 1) cs)) (take m (drop (i + 1) bs)) t
    ∙ ap₂ (λ (a r : List Classed). a ++ r) (sym (classed_take i cs bs))
    (sym (classed_take m (drop (i + 1) cs) (drop (i + 1) bs)) ∙ ap (take m) (sym (classed_drop (i + 1) cs bs)))
    ∙ removed n i (classed cs bs) h (omega (arith, classed_length cs bs e))
