-- The labels counted, each where it stands last. Assumes nothing.
use Rattle.std.specs.Prelude.{ℕ, ◌+◌, ◌-◌, ◌<◌, ◌≤◌, ◌≡◌, refl, Bool, not, ◌&&◌, ◌||◌, cond, List, [], ◌∷◌, length, take, drop, get_or, ℤ}
use Rattle.std.specs.List.{list_any}
use Rattle.std.proofs.Common.{ap, sym, ◌∙◌}
use Rattle.std.proofs.lemmas.List.{at_drop_more, at_drop_all, take_rest}
use Rattle.model.specs.Any.{any}
use Rattle.model.specs.ReadOut.{same_family, clusters_in}

any_is : (p : ℤ → Bool) (l : List ℤ) → any p l ≡ list_any p l
unfolding any
any_is p [] = refl
any_is p (a ∷ l) = ap (λ (b : Bool). p a || b) (any_is p l)

first_counted : (a : ℤ) (rest : List ℤ) → clusters_in (a ∷ rest) ≡ cond (same_family a a && not (list_any (same_family a) rest)) 1 0 + clusters_in rest
unfolding clusters_in
first_counted a rest = rw any_is refl

module _ (l : List ℤ) (i : ℕ) where
  -- the label at i is a cluster's or none's, and stands behind or not
  pub count_step :
      (z : ℤ) (r s : Bool) →
      i < length l →
      same_family (get_or l i z) (get_or l i z) ≡ r →
      list_any (same_family (get_or l i z)) (take (length l - (i + 1)) (drop (i + 1) l)) ≡ s →
      clusters_in (drop i l) ≡ cond (r && not s) 1 0 + clusters_in (drop (i + 1) l)
  count_step z r s h er es =
      let behind : list_any (same_family (get_or l i z)) (drop (i + 1) l) ≡ s = ap (list_any (same_family (get_or l i z))) (sym (take_rest l (i + 1))) ∙ es in
      at_drop_more clusters_in l i z h ∙ first_counted (get_or l i z) (drop (i + 1) l) ∙ rw (er, behind) refl

  pub count_end : length l ≤ i → clusters_in (drop i l) ≡ 0
  unfolding clusters_in
  count_end h = at_drop_all clusters_in l i h
