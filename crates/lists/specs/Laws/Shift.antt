-- A removal in place: `l[k] = l[k + 1]` for k from i. Done is `take k l`, left is `rest n (k + 1) l`. Assumes nothing.
use Prim.Native.Nat.{ℕ, zero, suc, ◌+◌, ◌-◌, ◌≤◌, ◌<◌}
use Rattle.std.specs.Prelude.{◌≡◌, take, get_or, set}
use Rattle.std.proofs.Math.Path.{refl, sym, ap, ap₂}
use Rattle.std.proofs.Common.{◌∙◌, add-one, take-suc-set, take-take}
use mathlib.Core.List.{List, [], ◌∷◌, ◌++◌, append-nil}
use native.Mathlib.Omega.{arith}
use Rattle.std.proofs.Math.ListN.{length, drop}
use Rattle.std.proofs.Math.Seq.{append_snoc, length-take-le}
use Rattle.lists.specs.Retain.{without}
use Rattle.lists.specs.Laws.Rest.{rest_step, rest_end, rest_set}
use Rattle.lists.specs.Rest.{rest}

module _ {ℓ} {A : Type ℓ} where
  split_out : (i : ℕ) (l : List A) → i < length l → without i l ≡ take i l ++ drop (suc i) l
  unfolding without
  split_out i [] h = absurd (omega arith)
  split_out zero (x ∷ xs) h = refl
  split_out (suc i) (x ∷ xs) h = ap (λ (r : List A). x ∷ r) (split_out i xs (let k : i < length xs = omega arith in k))

  -- before the first move
  pub shift_start : (n i : ℕ) (l : List A) → i < n → n ≤ length l → take i l ++ rest n (i + 1) l ≡ without i (take n l)
  unfolding rest
  shift_start n i l h k =
      let b : length (take n l) ≡ n = length-take-le n l k in
      let g : i ≤ n = omega arith in
      ap₂ (λ (a r : List A). a ++ r) (sym (take-take i n l g)) (ap (λ (m : ℕ). drop m (take n l)) (add-one i))
      ∙ sym (split_out i (take n l) (let q : i < length (take n l) = omega arith in q))

  -- one element moved down
  pub shift_step :
      (n k : ℕ) (l : List A) (d v : A) →
      k + 1 < n →
      n ≤ length l →
      v ≡ get_or l (k + 1) d →
      take (k + 1) (set l k v) ++ rest n (k + 1 + 1) (set l k v) ≡ take k l ++ rest n (k + 1) l
  shift_step n k l d v h b e =
      let q : k < length l = omega arith in
      let g : k < k + 1 + 1 = omega arith in
      ap₂ (λ (a r : List A). a ++ r) (ap (λ (m : ℕ). take m (set l k v)) (add-one k) ∙ take-suc-set l k v q) (rest_set n (k + 1 + 1) l k v g)
      ∙ append_snoc (take k l) v (rest n (k + 1 + 1) l)
      ∙ ap (λ (r : List A). take k l ++ r) (ap (λ (a : A). a ∷ rest n (k + 1 + 1) l) e ∙ sym (rest_step n (k + 1) l d h b))

  -- all are moved
  pub shift_end : (n k : ℕ) (l : List A) → n ≡ k + 1 → take k l ++ rest n (k + 1) l ≡ take (n - 1) l
  shift_end n k l e =
      let g : n ≤ k + 1 = omega arith in
      let m : k ≡ n - 1 = omega arith in
      ap (λ (r : List A). take k l ++ r) (rest_end n (k + 1) l g) ∙ append-nil (take k l) ∙ ap (λ (j : ℕ). take j l) m
