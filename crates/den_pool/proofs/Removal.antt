-- One of a pool taken out: the others stand in front, in order. Assumes nothing.
use Rattle.std.proofs.Common.{◌≡◌, ℕ, zero, suc, ◌+◌, ◌-◌, ◌≤◌, ◌<◌, List, [], ◌∷◌, ◌++◌, length, take, drop, get_or, refl, sym, ap, ◌∙◌, arith, length-append}
use Rattle.std.specs.List.{remove}
use lib.Seq.{drop-cons}
use Rattle.std.proofs.lemmas.List.{take_at, drop_at}
use Rattle.std.proofs.lemmas.Slice.{put_mid-rotated}
use borrow.Rule.Slice.PartMut.{put_mid, mid_of}
use Rattle.lists.specs.Retain.{without}

module _ {A : Type 0} where
  pub without_past : (l : List A) (i : ℕ) → length l ≤ i → l ≡ without i l
  unfolding without
  without_past [] i h = refl
  without_past (x ∷ xs) zero h = absurd (omega arith)
  without_past (x ∷ xs) (suc i) h = ap (λ (r : List A). x ∷ r) (without_past xs i (let k : length xs ≤ i = omega arith in k))

  without_is : (l : List A) (i : ℕ) → i < length l → remove l i ≡ without i l
  unfolding without
  without_is [] i h = absurd (omega arith)
  without_is (x ∷ xs) zero h = refl
  without_is (x ∷ xs) (suc i) h = ap (λ (r : List A). x ∷ r) (without_is xs i (let k : i < length xs = omega arith in k))

  -- what it leaves in front
  pub without_rotated :
      (a k : ℕ) (l part : List A) → a < length l → length l ≤ a + k → part ≡ drop 1 (mid_of a k l) ++ take 1 (mid_of a k l) →
      take (length (put_mid a k l part) - 1) (put_mid a k l part) ≡ without a l
  without_rotated a k [] part h _ e = absurd (omega arith)
  without_rotated a k (x ∷ l) part h o e =
      let whole : put_mid a k (x ∷ l) part ≡ remove (x ∷ l) a ++ get_or (x ∷ l) a x ∷ [] = put_mid-rotated a k (x ∷ l) part x h o e in
      ap (λ r. take (length r - 1) r) whole
      ∙ take_at (remove (x ∷ l) a) (get_or (x ∷ l) a x ∷ []) _ (omega (arith, length-append (remove (x ∷ l) a) (get_or (x ∷ l) a x ∷ [])))
      ∙ without_is (x ∷ l) a h

  -- and behind it, the one taken out
  pub behind_rotated :
      (a k : ℕ) (l part : List A) → a < length l → length l ≤ a + k → part ≡ drop 1 (mid_of a k l) ++ take 1 (mid_of a k l) →
      drop (length (put_mid a k l part) - 1) (put_mid a k l part) ≡ take 1 (drop a l)
  behind_rotated a k [] part h _ e = absurd (omega arith)
  behind_rotated a k (x ∷ l) part h o e =
      let whole : put_mid a k (x ∷ l) part ≡ remove (x ∷ l) a ++ get_or (x ∷ l) a x ∷ [] = put_mid-rotated a k (x ∷ l) part x h o e in
      ap (λ r. drop (length r - 1) r) whole
      ∙ drop_at (remove (x ∷ l) a) (get_or (x ∷ l) a x ∷ []) _ (omega (arith, length-append (remove (x ∷ l) a) (get_or (x ∷ l) a x ∷ [])))
      ∙ ap (take 1) (sym (drop-cons (x ∷ l) a x h))
