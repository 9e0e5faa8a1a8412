-- The search of a root among those met, and the loop of `labels`. Assumes nothing.
use Prim.Native.Nat.{ℕ, zero, suc, ◌+◌, ◌-◌, ◌<◌, ◌≤◌, min}
use mathlib.Core.Path.{◌≡◌, refl, sym, ◌∙◌, ap, ap₂, subst}
use mathlib.Core.Bool.{Bool, true, false, cond}
use mathlib.Core.List.{List, [], ◌∷◌, ◌++◌, append-nil}
use native.Mathlib.Omega.{arith}
use native.Mathlib.Numerals.{add-one}
use lib.Dec.{eqb}
use lib.IntN.{ℤ, pos, negsuc}
use lib.ListN.{length, take, drop, get_or, set, replicate, length-set, length-take, length-replicate, take-append-drop, drop_of_length-le}
use lib.Seq.{drop-cons, take-suc-set, drop-set-lt, append_snoc, set-get_or}
use Rattle.union_find.specs.Forest.{places}
use Rattle.std.specs.Prelude.{Option, Some, None, position}
use mathlib.Core.Logic.{by_cases}
use native.Mathlib.Decide.{dec_lt}
use borrow.Author.Tests.{lt-ltb, le-ltb}
use Rattle.std.specs.List.{position_or_len}
use Rattle.std.proofs.lemmas.List.{take_min, length-append}
use Rattle.std.proofs.lemmas.List.Recursion.{is_position_or_len}
use Rattle.labels.specs.Label.{place_in, meet, labels_from, labels_of, labels_in}
use Rattle.labels.proofs.Laws.Label.{place_le, meet_old, meet_new, met_by}

-- ---- the search of a root among those met: the definition's place, or none
place_is : (v : ℕ) (us : List ℕ) → place_in v us ≡ position_or_len (λ u. eqb u v) us
unfolding place_in
place_is v us = is_position_or_len (place_in v) (λ u. eqb u v) refl (λ x xs. ap (λ (k : ℕ). cond (eqb x v) 0 k) (sym (one_add (place_in v xs)))) us
  where
    one_add : (k : ℕ) → 1 + k ≡ suc k
    one_add k = omega arith

-- one that was met stands below their number
pub place_some : (v : ℕ) (us : List ℕ) (k : ℕ) → position (λ u. eqb u v) us ≡ Some k → (k ≡ place_in v us) × (k < length us)
place_some v us k e =
    by_cases (dec_lt (position_or_len (λ u. eqb u v) us) (length us))
    (λ h. let q : Some (position_or_len (λ u. eqb u v) us) ≡ Some k = rw (lt-ltb _ _ h) at e in
    let n : position_or_len (λ u. eqb u v) us ≡ k = cc in
    (sym n ∙ sym (place_is v us), omega arith))
    (λ h. let q : ◌≡◌ {A = Option ℕ} None (Some k) = rw (le-ltb (position_or_len (λ u. eqb u v) us) (length us) (omega arith)) at e in cc)

-- one that was not has their number for a place
pub place_none : (v : ℕ) (us : List ℕ) → position (λ u. eqb u v) us ≡ None → place_in v us ≡ length us
place_none v us e =
    by_cases (dec_lt (position_or_len (λ u. eqb u v) us) (length us))
    (λ h. let q : ◌≡◌ {A = Option ℕ} (Some (position_or_len (λ u. eqb u v) us)) None = rw (lt-ltb _ _ h) at e in cc)
    (λ h. omega (arith, place_le v us, place_is v us))

-- ---- the labels written so far, and the roots met
pub record Labelling (mask : List Bool) (roots : List ℕ) (labels : List ℤ) (met : List ℕ) (i : ℕ) : Type 0 where
  pub size : length labels ≡ places
  pub few : length met ≤ i
  pub within : i ≤ length mask
  -- those written, and those that the places left will get
  pub made : take i labels ++ labels_from met (drop i mask) (drop i roots) ≡ labels_of mask roots
  pub unset : drop i labels ≡ replicate (places - i) (negsuc 0)

-- no label is written, and no root is met
pub labels_start : (mask : List Bool) (roots : List ℕ) → Labelling mask roots (replicate places (negsuc 0)) [] 0
unfolding labels_of
labels_start mask roots =
    record {
      size = length-replicate places (negsuc 0);
      few = omega arith;
      within = omega arith;
      made = refl;
      unset = refl;
    }

module _ (mask : List Bool) (roots : List ℕ) (labels : List ℤ) (us : List ℕ) (i : ℕ) (l : Labelling mask roots labels us i)
    (h : i < length mask) (lm : length mask ≤ places) (lr : length roots ≡ places) where
  abbrev v : ℕ
  v = get_or roots i 0

  -- the label of the place i
  abbrev z : Bool → ℤ
  z b = cond b (pos (place_in v us)) (negsuc 0)

  -- what is left of the array begins with the label that the place i has so far
  unwritten : get_or labels i (negsuc 0) ∷ drop (suc i) labels ≡ replicate (suc (places - suc i)) (negsuc 0)
  unwritten =
      let q : places - i ≡ suc (places - suc i) = omega arith in
      sym (drop-cons labels i (negsuc 0) (omega (arith, l.size))) ∙ l.unset ∙ ap (λ (k : ℕ). replicate k (negsuc 0)) q

  labels_next : (b : Bool) → get_or mask i false ≡ b → length (met_by us b v) ≤ i + 1 → Labelling mask roots (set labels i (z b)) (met_by us b v) (i + 1)
  unfolding labels_from
  labels_next b eb few' =
      record {
        size = length-set labels i (z b) ∙ l.size;
        few = few';
        within = omega arith;
        made = ap (λ (k : ℕ). take k (set labels i (z b)) ++ labels_from (met_by us b v) (drop (i + 1) mask) (drop k roots)) (add-one i)
            ∙ ap (λ (ls : List ℤ). ls ++ labels_from (met_by us b v) (drop (i + 1) mask) (drop (suc i) roots)) (take-suc-set labels i (z b) (omega (arith, l.size)))
            ∙ append_snoc (take i labels) (z b) (labels_from (met_by us b v) (drop (i + 1) mask) (drop (suc i) roots))
            ∙ ap₂ (λ (bs : List Bool) (rs : List ℕ). take i labels ++ labels_from us bs rs) (sym mask_drop) (sym (drop-cons roots i 0 (omega arith)))
            ∙ l.made;
        unset = let q : places - (i + 1) ≡ places - suc i = omega arith in
            ap (λ (k : ℕ). drop k (set labels i (z b))) (add-one i) ∙ drop-set-lt (suc i) labels i (z b) (omega arith)
            ∙ ap (drop 1) unwritten ∙ ap (λ (k : ℕ). replicate k (negsuc 0)) (sym q);
      }
    where
      mask_drop : drop i mask ≡ b ∷ drop (i + 1) mask
      mask_drop = drop-cons mask i false h ∙ ap₂ (λ (t : Bool) (k : ℕ). t ∷ drop k mask) eb (sym (add-one i))

  -- outside the mask, with an old root, and with a new one
  pub label_out : get_or mask i false ≡ false → Labelling mask roots labels us (i + 1)
  label_out e = subst (λ (ls : List ℤ). Labelling mask roots ls us (i + 1)) same (labels_next false e (omega (arith, l.few)))
    where
      same : set labels i (negsuc 0) ≡ labels
      same = ap (λ (ls : List ℤ). set labels i (get_or ls 0 (negsuc 0))) (sym unwritten) ∙ set-get_or labels i (negsuc 0)

  -- a root met before
  pub label_old : get_or mask i false ≡ true → (k : ℕ) → k ≡ place_in v us → k < length us → Labelling mask roots (set labels i (pos k)) us (i + 1)
  label_old e k ek n =
      let same : meet us v ≡ us = meet_old us v (omega (arith, place_le v us)) in
      subst (λ (met : List ℕ). Labelling mask roots (set labels i (pos k)) met (i + 1)) same
      (subst (λ (q : ℕ). Labelling mask roots (set labels i (pos q)) (meet us v) (i + 1)) (sym ek)
      (labels_next true e (rw same (omega (arith, l.few)))))

  -- a root met for the first time
  pub label_new : get_or mask i false ≡ true → place_in v us ≡ length us → Labelling mask roots (set labels i (pos (length us))) (us ++ v ∷ []) (i + 1)
  label_new e n =
      let grown : meet us v ≡ us ++ v ∷ [] = meet_new us v (omega arith) in
      subst (λ (met : List ℕ). Labelling mask roots (set labels i (pos (length us))) met (i + 1)) grown
      (subst (λ (q : ℕ). Labelling mask roots (set labels i (pos q)) (meet us v) (i + 1)) n
      (labels_next true e (rw grown (omega (arith, l.few, length-append us (v ∷ []))))))

-- the labels do not go by what the mask says past the roots
labels_cut : (us : List ℕ) (n : ℕ) (bs : List Bool) (rs : List ℕ) → length rs ≤ n → labels_from us (take n bs) rs ≡ labels_from us bs rs
unfolding labels_from
labels_cut us zero [] rs h = refl
labels_cut us zero (b ∷ bs) [] h = refl
labels_cut us zero (b ∷ bs) (r ∷ rs) h = absurd (omega arith)
labels_cut us (suc n) [] rs h = refl
labels_cut us (suc n) (b ∷ bs) [] h = refl
labels_cut us (suc n) (b ∷ bs) (r ∷ rs) h =
    ap (λ (ls : List ℤ). cond b (pos (place_in r us)) (negsuc 0) ∷ ls) (labels_cut (cond b (meet us r) us) n bs rs (omega arith))

-- all labels are written; the mask was cut to the places
pub labels_end :
    (mask : List Bool) (n : ℕ) (roots : List ℕ) (labels : List ℤ) (met : List ℕ) (i : ℕ) →
    n ≡ min (length mask) places →
    length roots ≡ places →
    i ≡ n →
    Labelling (take n mask) roots labels met i →
    labels ≡ labels_in roots mask
unfolding labels_in labels_of labels_from
labels_end mask n roots labels met i en lr ei l =
    sym (take-append-drop i labels)
    ∙ ap₂ ◌++◌ (written ∙ labelled) (l.unset ∙ ap (λ (k : ℕ). replicate (places - k) (negsuc 0)) (ei ∙ en))
  where
    cut : take n mask ≡ take places mask
    cut = let e : n ≡ min places (length mask) = omega arith in rw e (take_min places mask)

    labelled : labels_of (take n mask) roots ≡ labels_of mask roots
    labelled = ap (λ (bs : List Bool). labels_from [] bs roots) cut ∙ labels_cut [] places mask roots (omega arith)

    written : take i labels ≡ labels_of (take n mask) roots
    written =
        sym (append-nil (take i labels))
        ∙ ap (λ (bs : List Bool). take i labels ++ labels_from met bs (drop i roots))
        (sym (drop_of_length-le (take n mask) (omega (arith, length-take n mask))))
        ∙ l.made
