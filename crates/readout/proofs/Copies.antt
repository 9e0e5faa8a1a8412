-- Elements due, written one by one into a list; what lies beyond them stays. Assumes nothing.
use Prim.Native.Nat.{ℕ, suc, ◌+◌, ◌≤◌, ◌<◌}
use mathlib.Core.Path.{◌≡◌, sym, ap, ap₂, ◌∙◌}
use mathlib.Core.List.{List, [], ◌∷◌, ◌++◌, append_assoc}
use native.Mathlib.Numerals.{add-one}
use native.Mathlib.Omega.{arith}
use lib.ListN.{length, take, drop, get_or, set, length-drop}
use lib.Seq.{drop-cons, drop-drop, set_at, take_at, drop_at, take-add, take-suc, take-length, append_snoc, length-take-le}
use borrow.Rule.Slice.PartMut.{put_mid}
use Rattle.model.specs.ReadOut.{written}

-- the first i of those due are written
abbrev pub partly : {A : Type 0} → (due lent : List A) (i : ℕ) → List A
partly due lent i = take i due ++ drop i lent

module _ {A : Type 0} (due lent out : List A) (n : ℕ) (count : length due ≡ n) (room : n ≤ length lent) (i : ℕ) (e : out ≡ partly due lent i) where
  pub copy_step : (v d : A) → v ≡ get_or due i d → i < n → set out i v ≡ partly due lent (i + 1)
  copy_step v d ev h =
      let hd : i < length due = omega arith in
      let hl : i < length lent = omega arith in
      ap (λ (o : List A). set o i v) e
      ∙ ap (λ (t : List A). set (take i due ++ t) i v) (drop-cons lent i v hl)
      ∙ set_at (take i due) (get_or lent i v) (drop (suc i) lent) v i (length-take-le i due (omega arith))
      ∙ sym (append_snoc (take i due) v (drop (suc i) lent))
      ∙ ap (λ (a : A). (take i due ++ a ∷ []) ++ drop (suc i) lent) ev
      ∙ ap (λ (t : List A). t ++ drop (suc i) lent) (sym (take-suc due i d hd))
      ∙ ap (λ (k : ℕ). take k due ++ drop k lent) (sym (add-one i))

  pub copy_end : i ≡ n → out ≡ written due lent
  copy_end h =
      e ∙ ap (λ (k : ℕ). take k due ++ drop k lent) (h ∙ sym count) ∙ ap (λ (t : List A). t ++ drop (length due) lent) (take-length due)

-- the next w of those due, written as one block into what lies from at on
module _ {A : Type 0} (due lent out : List A) (at w : ℕ) (e : out ≡ partly due lent at) (h : at + w ≤ length due) (block : List A)
    (eb : block ≡ take w (drop at due)) where
  front : length (take at due) ≡ at
  front = length-take-le at due (omega arith)

  tail_is : drop at out ≡ drop at lent
  tail_is = ap (drop at) e ∙ drop_at (take at due) (drop at lent) at front

  block_length : length block ≡ w
  block_length = ap length eb ∙ length-take-le w (drop at due) (omega (arith, length-drop at due))

  pub block_step : put_mid at w out block ≡ partly due lent (at + w)
  block_step =
      ap₂ (λ (f r : List A). f ++ r) (ap (take at) e ∙ take_at (take at due) (drop at lent) at front)
      (ap (λ (r : List A). block ++ r) (ap (drop w) tail_is ∙ drop-drop w at lent))
      ∙ sym (append_assoc (take at due) block (drop (at + w) lent))
      ∙ ap (λ (l : List A). l ++ drop (at + w) lent) (ap (λ (b : List A). take at due ++ b) eb ∙ sym (take-add at w due))
