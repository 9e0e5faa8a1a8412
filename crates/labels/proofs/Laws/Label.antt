-- Labels tell the families, and count from 0 by first member. Assumes nothing.
use Rattle.std.specs.Prelude.{ℕ, zero, suc, ◌+◌, ◌-◌, ◌<◌, ◌≤◌, min, ◌≡◌, refl, ◌↔◌, ◌⊎◌, Bool, true, false, cond, List, [], ◌∷◌, ◌++◌, ℤ, pos, negsuc, length, take, get_or, replicate}
use Rattle.std.proofs.Common.{sym, ◌∙◌, ap, inl, inr, ⊎_elim, true≢false, append-nil, append_assoc, arith, length-append, take_at, eq-eqb, ne_eqb, lt-ltb, le-ltb}
use Rattle.std.proofs.Math.Logic.{by_cases}
use Rattle.std.proofs.Math.Decide.{ℕ_discrete, dec_lt}
use Rattle.std.proofs.Math.ListN.{get_or-eq_default}
use Rattle.union_find.specs.Pairs.{Joined, Chain}
use Rattle.union_find.specs.Forest.{places, roots_of, roots_in}
use Rattle.union_find.proofs.Laws.Root.{RootsTell, roots_tell, sought_length, sought_root}
use Rattle.labels.specs.Label.{place_in, meet, labels_from, labels_of, labels_in}

-- ---- the place of a root among the roots met
pub place_le : (v : ℕ) (us : List ℕ) → place_in v us ≤ length us
unfolding place_in
place_le v [] = omega arith
place_le v (u ∷ us) =
    by_cases (ℕ_discrete u v) (λ e. rw (eq-eqb u v e) (omega arith)) (λ e. rw (ne_eqb u v e) (let h : place_in v us ≤ length us = place_le v us in omega arith))

-- v is one of us
abbrev pub Met : List ℕ → ℕ → Type 0
Met us v = place_in v us < length us

-- what stands behind does not move it
place_append : (v : ℕ) (us ws : List ℕ) → Met us v → place_in v (us ++ ws) ≡ place_in v us
unfolding place_in
place_append v [] ws h = absurd (omega arith)
place_append v (u ∷ us) ws h =
    by_cases (ℕ_discrete u v) (λ e. rw (eq-eqb u v e))
    (λ e.
    let g : suc (place_in v us) < suc (length us) = rw (ne_eqb u v e) at h in
    rw (ne_eqb u v e) (ap suc (place_append v us ws (omega arith))))

place_end : (v : ℕ) (us : List ℕ) → length us ≤ place_in v us → place_in v (us ++ (v ∷ [])) ≡ length us
unfolding place_in
place_end v [] h = rw (eq-eqb v v refl)
place_end v (u ∷ us) h =
    by_cases (ℕ_discrete u v) (λ e. absurd (let g : suc (length us) ≤ 0 = rw (eq-eqb u v e) at h in omega arith))
    (λ e.
    let g : suc (length us) ≤ suc (place_in v us) = rw (ne_eqb u v e) at h in
    rw (ne_eqb u v e) (ap suc (place_end v us (omega arith))))

-- one place, one root
place_one : (v w : ℕ) (us : List ℕ) → Met us v → place_in v us ≡ place_in w us → v ≡ w
unfolding place_in
place_one v w [] h q = absurd (omega arith)
place_one v w (u ∷ us) h q =
    by_cases (ℕ_discrete u v)
    (λ e. by_cases (ℕ_discrete u w) (λ d. sym e ∙ d) (λ d. absurd (let z : 0 ≡ suc (place_in w us) = rw (eq-eqb u v e, ne_eqb u w d) at q in omega arith)))
    (λ e. by_cases (ℕ_discrete u w) (λ d. absurd (let z : suc (place_in v us) ≡ 0 = rw (ne_eqb u v e, eq-eqb u w d) at q in omega arith))
    (λ d.
    let z : suc (place_in v us) ≡ suc (place_in w us) = rw (ne_eqb u v e, ne_eqb u w d) at q in
    let g : suc (place_in v us) < suc (length us) = rw (ne_eqb u v e) at h in
    place_one v w us (omega arith) (omega arith)))

-- meeting v adds it at the end, unless it was met before
pub meet_old : (us : List ℕ) (v : ℕ) → Met us v → meet us v ≡ us
unfolding meet
meet_old us v h = rw (lt-ltb (place_in v us) (length us) h)

-- a new root goes to the end of those met
pub meet_new : (us : List ℕ) (v : ℕ) → length us ≤ place_in v us → meet us v ≡ us ++ (v ∷ [])
unfolding meet
meet_new us v h = rw (le-ltb (place_in v us) (length us) h)

-- the roots met after one more place
abbrev pub met_by : List ℕ → Bool → ℕ → List ℕ
met_by us b v = cond b (meet us v) us

-- that is what was met, and one root more at most
met_more : (us : List ℕ) (b : Bool) (v : ℕ) → (ws : List ℕ) × (met_by us b v ≡ us ++ ws)
met_more us false v = ([], sym (append-nil us))
met_more us true v = by_cases (dec_lt (place_in v us) (length us)) (λ h. ([], meet_old us v h ∙ sym (append-nil us))) (λ h. (v ∷ [], meet_new us v (omega arith)))

meet_met : (us : List ℕ) (v : ℕ) → Met (meet us v) v × (place_in v (meet us v) ≡ place_in v us)
meet_met us v =
    by_cases (dec_lt (place_in v us) (length us)) (λ h. rw (meet_old us v h) (h, refl))
    (λ h.
    let l : place_in v us ≤ length us = place_le v us in
    let e : place_in v (us ++ (v ∷ [])) ≡ length us = place_end v us (omega arith) in
    let k : length (us ++ (v ∷ [])) ≡ length us + 1 = length-append us (v ∷ []) in
    rw (meet_new us v (omega arith)) (omega arith, omega arith))

-- ---- a label is its root's place among all roots that are met in the end
unfoldable all_met : List ℕ → List Bool → List ℕ → List ℕ
all_met us [] rs = us
all_met us (b ∷ bs) [] = us
all_met us (b ∷ bs) (r ∷ rs) = all_met (met_by us b r) bs rs

all_more : (us : List ℕ) (bs : List Bool) (rs : List ℕ) → (ws : List ℕ) × (all_met us bs rs ≡ us ++ ws)
unfolding all_met
all_more us [] rs = ([], sym (append-nil us))
all_more us (b ∷ bs) [] = ([], sym (append-nil us))
all_more us (b ∷ bs) (r ∷ rs) =
    let one = met_more us b r in
    let rest = all_more (met_by us b r) bs rs in
    (one.0 ++ rest.0, rest.1 ∙ ap (λ (l : List ℕ). l ++ rest.0) one.1 ∙ append_assoc us one.0 rest.0)

-- the label of the place i; −1 past the end
abbrev pub label_at : List ℤ → ℕ → ℤ
label_at l i = get_or l i (negsuc 0)

-- the place i is not in the mask
abbrev pub Outside : List Bool → ℕ → Type 0
Outside mask i = get_or mask i false ≡ false

-- the place i is in the mask
abbrev pub Inside : List Bool → ℕ → Type 0
Inside mask i = get_or mask i false ≡ true

label_outside : (us : List ℕ) (bs : List Bool) (rs : List ℕ) (i : ℕ) → Outside bs i → label_at (labels_from us bs rs) i ≡ negsuc 0
unfolding labels_from
label_outside us [] rs i h = refl
label_outside us (b ∷ bs) [] i h = refl
label_outside us (b ∷ bs) (r ∷ rs) zero h = ap (λ (t : Bool). cond t (pos (place_in r us)) (negsuc 0)) h
label_outside us (b ∷ bs) (r ∷ rs) (suc i) h = label_outside (met_by us b r) bs rs i h

label_inside : (us : List ℕ) (bs : List Bool) (rs : List ℕ) (i : ℕ) → i < length rs → Inside bs i
    → Met (all_met us bs rs) (get_or rs i 0) × (label_at (labels_from us bs rs) i ≡ pos (place_in (get_or rs i 0) (all_met us bs rs)))
unfolding labels_from all_met
label_inside us [] rs i l h = absurd (true≢false (sym h))
label_inside us (b ∷ bs) [] i l h = absurd (omega arith)
label_inside us (b ∷ bs) (r ∷ rs) (suc i) l h = label_inside (met_by us b r) bs rs i (omega arith) h
label_inside us (b ∷ bs) (r ∷ rs) zero l h = rw (h, rest.1) (
  (let k : length (meet us r ++ rest.0) ≡ length (meet us r) + length rest.0 = length-append (meet us r) rest.0 in omega (arith, m.0, stays)),
  ap pos (sym (stays ∙ m.1)),
)
  where
    m : Met (meet us r) r × (place_in r (meet us r) ≡ place_in r us)
    m = meet_met us r

    rest : (ws : List ℕ) × (all_met (meet us r) bs rs ≡ meet us r ++ ws)
    rest = all_more (meet us r) bs rs

    stays : place_in r (meet us r ++ rest.0) ≡ place_in r (meet us r)
    stays = place_append r (meet us r) rest.0 m.0

-- each place of the mask gets a label
pub labels_length : (us : List ℕ) (bs : List Bool) (rs : List ℕ) → length bs ≤ length rs → length (labels_from us bs rs) ≡ length bs
unfolding labels_from
labels_length us [] rs l = refl
labels_length us (b ∷ bs) [] l = absurd (omega arith)
labels_length us (b ∷ bs) (r ∷ rs) l = ap suc (labels_length (met_by us b r) bs rs (omega arith))

not_neg : {k : ℕ} → negsuc 0 ≡ pos k → ⊥
not_neg {k} e = let z : ◌≡◌ {A = ℕ} 0 1 = cc in omega arith

pos_one : {m k : ℕ} → pos m ≡ pos k → m ≡ k
pos_one e = cc

-- each smaller label was met before, or stands for one of us
smaller : (us : List ℕ) (bs : List Bool) (rs : List ℕ) (i k m : ℕ) → label_at (labels_from us bs rs) i ≡ pos k → m < k
    → (m < length us) ⊎ ((j : ℕ) × (j < i) × (label_at (labels_from us bs rs) j ≡ pos m))
unfolding labels_from
smaller us [] rs i k m e h = absurd (not_neg e)
smaller us (b ∷ bs) [] i k m e h = absurd (not_neg e)
smaller us (b ∷ bs) (r ∷ rs) zero k m e h = inl (at_first b e)
  where
    at_first : (t : Bool) → cond t (pos (place_in r us)) (negsuc 0) ≡ pos k → m < length us
    at_first true q = let z : place_in r us ≡ k = cc in let l : place_in r us ≤ length us = place_le r us in omega arith
    at_first false q = absurd (not_neg q)
smaller us (b ∷ bs) (r ∷ rs) (suc i) k m e h =
    ⊎_elim (first b) (λ w. inr (suc w.0, (let l : w.0 < i = w.1 in omega arith), w.2)) (smaller (met_by us b r) bs rs i k m e h)
  where
    Before : Bool → Type 0
    Before t = (m < length us) ⊎ ((j : ℕ) × (j < suc i) × (label_at (cond t (pos (place_in r us)) (negsuc 0) ∷ labels_from (met_by us b r) bs rs) j ≡ pos m))

    first : (t : Bool) → m < length (met_by us t r) → Before t
    first false l = inl l
    first true l =
        by_cases (dec_lt (place_in r us) (length us)) (λ g. inl (rw (meet_old us r g) at l))
        (λ g.
        let n : m < length (us ++ (r ∷ [])) = rw (meet_new us r (omega arith)) at l in
        let q : length (us ++ (r ∷ [])) ≡ length us + 1 = length-append us (r ∷ []) in
        let p : place_in r us ≤ length us = place_le r us in
        by_cases (dec_lt m (length us)) (λ d. inl d) (λ d. inr (0, omega arith, ap pos (omega arith))))

-- the labels of n places, of which some are inside a mask and some joined
pub record LabelsTell (n : ℕ) (es : List (ℕ × ℕ)) (mask : List Bool) (labels : List ℤ) : Type 0 where
  pub count : length labels ≡ n
  -- −1 stands exactly outside the mask
  pub outside : (i : ℕ) → i < n → (label_at labels i ≡ negsuc 0) ↔ Outside mask i
  -- two labels are equal exactly when both places are outside, or both inside and chained
  pub equal :
      (i j : ℕ) → i < n → j < n →
      (label_at labels i ≡ label_at labels j) ↔ ((Outside mask i × Outside mask j) ⊎ (Inside mask i × Inside mask j × Chain (Joined n es) i j))
  -- labels count from 0 by first member: each smaller one stands before
  pub from_zero : (i k m : ℕ) → i < n → label_at labels i ≡ pos k → m < k → (j : ℕ) × (j < i) × (label_at labels j ≡ pos m)

-- the labels after the pairs of the first n were joined
pub labels_tell : (n : ℕ) → n ≤ places → (es : List (ℕ × ℕ)) (mask : List Bool) → length mask ≡ n → LabelsTell n es mask (labels_of mask (roots_of n es))
unfolding labels_of
labels_tell n hn es mask size =
    record {
      count = labels_length [] mask roots (omega (arith, tell.count)) ∙ size;
      outside = λ i hi. (weak i hi (get_or mask i false) refl, label_outside [] mask roots i);
      equal = λ i j hi hj. (to i j hi hj (get_or mask i false) (get_or mask j false) refl refl, from i j hi hj);
      from_zero = λ i k m hi e h. ⊎_elim (λ z. absurd (omega arith)) (λ w. w) (smaller [] mask roots i k m e h);
    }
  where
    roots : List ℕ
    roots = roots_of n es

    tell : RootsTell n es roots
    tell = roots_tell n hn es

    in_at :
        (i : ℕ) → i < n → Inside mask i →
        Met (all_met [] mask roots) (get_or roots i 0) × (label_at (labels_from [] mask roots) i ≡ pos (place_in (get_or roots i 0) (all_met [] mask roots)))
    in_at i hi h = label_inside [] mask roots i (omega (arith, tell.count)) h

    weak : (i : ℕ) → i < n → (t : Bool) → get_or mask i false ≡ t → label_at (labels_from [] mask roots) i ≡ negsuc 0 → Outside mask i
    weak i hi true h e = absurd (not_neg (sym e ∙ (in_at i hi h).1))
    weak i hi false h e = h

    Same : ℕ → ℕ → Type 0
    Same i j = (Outside mask i × Outside mask j) ⊎ (Inside mask i × Inside mask j × Chain (Joined n es) i j)

    to :
        (i j : ℕ) →
        i < n →
        j < n →
        (t u : Bool) →
        get_or mask i false ≡ t →
        get_or mask j false ≡ u →
        label_at (labels_from [] mask roots) i ≡ label_at (labels_from [] mask roots) j →
        Same i j
    to i j hi hj true true p q e =
        let a = in_at i hi p in
        let b = in_at j hj q in
        let z : pos (place_in (get_or roots i 0) (all_met [] mask roots)) ≡ pos (place_in (get_or roots j 0) (all_met [] mask roots)) = sym a.1 ∙ e ∙ b.1 in
        inr (p, q, (tell.equal i j (omega arith) (omega arith)).0 (place_one (get_or roots i 0) (get_or roots j 0) (all_met [] mask roots) a.0 (pos_one z)))
    to i j hi hj true false p q e = absurd (not_neg (sym (label_outside [] mask roots j q) ∙ sym e ∙ (in_at i hi p).1))
    to i j hi hj false true p q e = absurd (not_neg (sym (label_outside [] mask roots i p) ∙ e ∙ (in_at j hj q).1))
    to i j hi hj false false p q e = inl (p, q)

    from : (i j : ℕ) → i < n → j < n → Same i j → label_at (labels_from [] mask roots) i ≡ label_at (labels_from [] mask roots) j
    from i j hi hj =
        ⊎_elim (λ w. label_outside [] mask roots i w.0 ∙ sym (label_outside [] mask roots j w.1))
        (λ w.
        (in_at i hi w.0).1
        ∙ ap (λ (v : ℕ). pos (place_in v (all_met [] mask roots))) ((tell.equal i j (omega arith) (omega arith)).1 w.2)
        ∙ sym (in_at j hj w.1).1)

-- labels go by the roots of the places inside alone
pub labels_agree :
    (us : List ℕ) (bs : List Bool) (rs qs : List ℕ) →
    length rs ≡ length qs →
    ((i : ℕ) → Inside bs i → get_or rs i 0 ≡ get_or qs i 0) →
    labels_from us bs rs ≡ labels_from us bs qs
unfolding labels_from
labels_agree us [] rs qs l h = refl
labels_agree us (b ∷ bs) [] [] l h = refl
labels_agree us (b ∷ bs) [] (q ∷ qs) l h = absurd (omega arith)
labels_agree us (b ∷ bs) (r ∷ rs) [] l h = absurd (omega arith)
labels_agree us (b ∷ bs) (r ∷ rs) (q ∷ qs) l h = go b (h 0) (λ met. labels_agree met bs rs qs (omega arith) (λ i e. h (suc i) e))
  where
    labelled : Bool → ℕ → List ℕ → List ℤ
    labelled t v vs = cond t (pos (place_in v us)) (negsuc 0) ∷ labels_from (cond t (meet us v) us) bs vs

    go : (t : Bool) → (t ≡ true → r ≡ q) → ((met : List ℕ) → labels_from met bs rs ≡ labels_from met bs qs) → labelled t r rs ≡ labelled t q qs
    go true e later = ap (λ (v : ℕ). labelled true v rs) (e refl) ∙ ap (λ (ls : List ℤ). pos (place_in q us) ∷ ls) (later (meet us q))
    go false e later = ap (λ (ls : List ℤ). negsuc 0 ∷ ls) (later us)

-- so it is enough to seek these
pub labels_sought :
    (sought mask : List Bool) (es : List (ℕ × ℕ)) →
    length sought ≤ places →
    ((i : ℕ) → Inside mask i → Inside sought i) →
    labels_of mask (roots_in sought es) ≡ labels_of mask (roots_of (length sought) es)
unfolding labels_of
labels_sought sought mask es few h =
    labels_agree [] mask (roots_in sought es) (roots_of (length sought) es) (sought_length sought es ∙ sym (roots_tell (length sought) few es).count)
    (λ i e. sought_root sought es i (below i (h i e)) (h i e))
  where
    below : (i : ℕ) → Inside sought i → i < places
    below i e =
        by_cases (dec_lt i (length sought)) (λ l. omega arith)
        (λ l. absurd (true≢false (sym e ∙ get_or-eq_default sought false {n = i} (omega arith))))

-- of the array that `labels` gives, those that the mask covers are these
pub labels_first :
    (roots : List ℕ) (mask : List Bool) → length mask ≤ places → length roots ≡ places →
    take (length mask) (labels_in roots mask) ≡ labels_of mask roots
unfolding labels_in labels_of
labels_first roots mask hm lr =
    take_at (labels_from [] mask roots) (replicate (places - min (length mask) places) (negsuc 0)) (length mask)
    (labels_length [] mask roots (omega arith))
