-- `insert` meets its contract. Assumes nothing.
use Rattle.std.proofs.Common.{◌≡◌, ℕ, suc, ◌+◌, ◌-◌, ◌<◌, ◌≤◌, List, [], ◌++◌, ◌∷◌, sym, ap, ap₂, ◌∙◌, length, take, drop, set, get_or, arith, length-drop, length-take-le, drop-cons, append-nil}
use Rattle.std.proofs.Math.Seq.{set-append_seam}
use Rattle.std.proofs.lemmas.List.{drop_all, drop-take, take_rest}
use Rattle.db_gains.proofs.walk.insert.Goals as goal

module _ {A : Type 0} (xs : List A) (a : ℕ) (v : A) (h : a < length xs) where
  -- the last of those from a on goes to a, and is overwritten
  moved :
      (s ys : List A) →
      s ≡ drop a xs →
      ys ≡ drop (length s - 1) s ++ take (length s - 1) s →
      set (take a xs ++ (ys ++ drop (length xs - a) (drop a xs))) a v ≡ take a xs ++ v ∷ drop a (take (length xs - 1) xs)
  moved s ys es e =
      let size : length s ≡ length xs - a = ap (λ (r : List A). length r) es ∙ length-drop a xs in
      let last : length s - 1 < length s = omega (arith, size, h) in
      let left : length s ≤ suc (length s - 1) = omega arith in
      let none : drop (length xs - a) (drop a xs) ≡ [] = drop_all (length xs - a) (drop a xs) (omega (arith, length-drop a xs)) in
      let y : A = get_or s (length s - 1) v in
      let one : drop (length s - 1) s ≡ y ∷ [] = drop-cons s (length s - 1) v last ∙ ap (λ (r : List A). y ∷ r) (drop_all (suc (length s - 1)) s left) in
      let turned : ys ++ drop (length xs - a) (drop a xs) ≡ y ∷ take (length s - 1) s =
      ap₂ (λ (p q : List A). p ++ q) (e ∙ ap (λ (p : List A). p ++ take (length s - 1) s) one) none ∙ append-nil (y ∷ take (length s - 1) s) in
      let at : length (take a xs) ≡ a = length-take-le a xs (omega (arith, h)) in
      let whole : a + (length s - 1) ≡ length xs - 1 = omega (arith, size, h) in
      let rest : take (length s - 1) s ≡ drop a (take (length xs - 1) xs) =
      ap (take (length s - 1)) es ∙ sym (drop-take a (length s - 1) xs) ∙ ap (λ (n : ℕ). drop a (take n xs)) whole in
      ap (λ (r : List A). set (take a xs ++ r) a v) turned
      ∙ ap (λ (n : ℕ). set (take a xs ++ y ∷ take (length s - 1) s) n v) (sym at)
      ∙ set-append_seam (take a xs) y (take (length s - 1) s) v
      ∙ ap (λ (r : List A). take a xs ++ v ∷ r) rest

pub returns : goal.returns
returns c = let a = c.args in moved a.links.now a.at a.link c.requires _ _ (take_rest a.links.now a.at) c.rotate_right.ensures.after
