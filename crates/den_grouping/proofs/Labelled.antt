-- Roots, sums and labels, put together to the definition's labels. Assumes nothing.
use Prim.Native.Nat.{ℕ, zero, suc, ◌≤◌, ◌<◌}
use mathlib.Core.Path.{◌≡◌, refl, sym, ap, ap₂, ◌∙◌, subst}
use mathlib.Core.Bool.{Bool, true, false, true≢false}
use mathlib.Core.Logic.{by_cases}
use mathlib.Core.List.{List, [], ◌∷◌, map, map-map}
use native.Mathlib.Omega.{arith}
use native.Mathlib.Decide.{dec_lt}
use lib.IntN.{ℤ}
use lib.Ieee.{Float, binary64, le, nan, of_bits}
use lib.ListN.{length, take, get_or, length-take, length-map, replicate, get_or-eq_default}
use lib.Seq.{length-take-le, get_or-take, ext_get_or}
use Rattle.std.proofs.lemmas.List.{take_all}
use Rattle.union_find.specs.Forest.{places, roots_of, roots_in}
use Rattle.union_find.specs.declared.forest.Work.{Work}
use Rattle.union_find.specs.Steps.{find_steps, work_by}
use Rattle.union_find.specs.Laws.Union.{table_at}
use Rattle.union_find.proofs.Laws.Root.{roots_tell, sought_length, sought_root, sought_low}
use Rattle.labels.specs.Label as label
use Rattle.labels.specs.Label.{labels_of}
use Rattle.labels.proofs.Laws.Label.{labels_first, labels_agree}
use Rattle.labels.specs.Group.{sum_from, sums_of}
use Rattle.labels.specs.Laws.Group.{sum_agree}
use Rattle.model.specs.declared.micro.DenMicro.{DenMicro}
use Rattle.model.specs.Limits.{micros_most}
use Rattle.model.specs.Families.{labels_by, counted_by}
use Rattle.model.specs.DenState.{Params}
use Rattle.model.specs.DenCluster.{pairs_from}
use Rattle.den_pool.specs.Held.{micro_in, weight_of}
use Rattle.den_grouping.specs.Group.{labels_in, find_steps_in}

-- two functions that agree on a list's elements
map_agree : (f g : ℕ → Bool) (l : List ℕ) → ((i : ℕ) → i < length l → f (get_or l i 0) ≡ g (get_or l i 0)) → map f l ≡ map g l
map_agree f g [] h = refl
map_agree f g (x ∷ l) h = ap₂ (λ (b : Bool) (r : List Bool). b ∷ r) (h 0 (omega arith)) (map_agree f g l (λ i k. h (suc i) (omega arith)))

-- all are sought
all_true : (l : List DenMicro) (m : ℕ) → length l ≤ m → take (length l) (replicate m true) ≡ map (λ (x : DenMicro). true) l
all_true [] m h = refl
all_true (x ∷ l) zero h = absurd (omega arith)
all_true (x ∷ l) (suc m) h = ap (λ (bs : List Bool). true ∷ bs) (all_true l m (omega arith))

true_at : (l : List DenMicro) (i : ℕ) → i < length l → get_or (map (λ (x : DenMicro). true) l) i false ≡ true
true_at [] i h = absurd (omega arith)
true_at (x ∷ l) zero h = refl
true_at (x ∷ l) (suc i) h = true_at l i (omega arith)

-- the list of those sought, where all of a pool of at most 64 are
sought_are :
    (pool : List DenMicro) (d : ℕ) → length pool ≤ micros_most →
    take places (take (length pool) (replicate micros_most true)) ≡ map (λ (m : DenMicro). true) (map (micro_in d) pool)
sought_are pool d few =
    take_all places (take (length pool) (replicate micros_most true)) (omega (arith, length-take (length pool) (replicate micros_most true)))
    ∙ all_true pool micros_most few ∙ sym (map-map (λ (m : DenMicro). true) (micro_in d) pool)

-- the roots stand among the places, whichever are sought
pub roots_low :
    (n : ℕ) (sought : List Bool) (es : List (ℕ × ℕ)) (roots : List ℕ) → n ≤ micros_most → length sought ≤ places → roots ≡ roots_in sought es →
    (i : ℕ) → i < n → get_or (take n roots) i 0 < micros_most
roots_low n sought es roots h few e i k =
    let low : get_or roots i 0 < micros_most =
    subst (λ (r : List ℕ). get_or r i 0 < micros_most) (sym e) (sought_low sought few es i (omega arith)) in
    omega (arith, get_or-take n roots i 0 k)

module _ (p : Params) (t : Float) (l : List DenMicro) (end : ℕ) (size : length l ≡ end) (few : end ≤ micros_most)
    (roots : List ℕ) (er : roots ≡ roots_in (map (λ (m : DenMicro). true) l) (pairs_from p.eps2 0 l))
    (low : (i : ℕ) → i < end → get_or (take end roots) i 0 < micros_most)
    (ws : List Float) (ew : ws ≡ map (weight_of p.settings.lambda t) l) (sums : List Float) (es : sums ≡ sums_of roots ws)
    (mask : List Bool) (em : mask ≡ map (λ (v : ℕ). le p.settings.mu (get_or sums v nan)) (take end roots)) where
  abbrev pairs : List (ℕ × ℕ)
  pairs = pairs_from p.eps2 0 l

  abbrev whole : List ℕ
  whole = roots_of end pairs

  roots_size : length roots ≡ micros_most
  roots_size = ap length er ∙ sought_length (map (λ (m : DenMicro). true) l) pairs

  whole_size : length whole ≡ micros_most
  whole_size = (roots_tell end few pairs).count

  -- of those sought each root is its place's
  same : (i : ℕ) → i < end → get_or roots i 0 ≡ get_or whole i 0
  same i k =
      ap (λ (r : List ℕ). get_or r i 0) er ∙ sought_root (map (λ (m : DenMicro). true) l) pairs i (omega arith) (true_at l i (omega arith))
      ∙ ap (λ (m : ℕ). get_or (roots_of m pairs) i 0) (length-map l (λ (m : DenMicro). true) ∙ size)

  first_size : length (take end roots) ≡ end
  first_size = length-take-le end roots (omega (arith, roots_size))

  firsts : take end roots ≡ take end whole
  firsts =
      ext_get_or 0 (take end roots) (take end whole) (first_size ∙ sym (length-take-le end whole (omega (arith, whole_size))))
      (λ i k.
      let j : i < end = omega (arith, first_size) in
      get_or-take end roots i 0 j ∙ same i j ∙ sym (get_or-take end whole i 0 j))

  mask_size : length mask ≡ end
  mask_size = ap length em ∙ length-map (take end roots) (λ (v : ℕ). le p.settings.mu (get_or sums v nan)) ∙ first_size

  weights_size : length ws ≡ end
  weights_size = ap length ew ∙ length-map l (weight_of p.settings.lambda t) ∙ size

  sum_at_lem : (v : ℕ) → v < micros_most → get_or sums v nan ≡ sum_from (of_bits binary64 0) v whole ws
  unfolding sums_of
  sum_at_lem v h =
      ap (λ (s : List Float). get_or s v nan) es ∙ table_at micros_most (λ (u : ℕ). sum_from (of_bits binary64 0) u roots ws) nan v h
      ∙ sum_agree (of_bits binary64 0) v roots whole ws (roots_size ∙ sym whole_size) (λ i k. same i (omega (arith, weights_size)))

  mask_is : mask ≡ counted_by p.settings.mu (map (weight_of p.settings.lambda t) l) pairs
  unfolding counted_by
  mask_is =
      em
      ∙ map_agree (λ (v : ℕ). le p.settings.mu (get_or sums v nan)) (λ (v : ℕ). le p.settings.mu (sum_from (of_bits binary64 0) v whole ws))
      (take end roots)
      (λ i k. ap (le p.settings.mu) (sum_at_lem (get_or (take end roots) i 0) (low i (omega (arith, first_size)))))
      ∙ ap (map (λ (v : ℕ). le p.settings.mu (sum_from (of_bits binary64 0) v whole ws))) firsts
      ∙ ap (λ (w : List Float). map (λ (v : ℕ). le p.settings.mu (sum_from (of_bits binary64 0) v whole w)) (take end whole)) ew
      ∙ ap (λ (n : ℕ). map (λ (v : ℕ). le p.settings.mu
      (sum_from (of_bits binary64 0) v (roots_of n pairs) (map (weight_of p.settings.lambda t) l))) (take n (roots_of n pairs)))
      (sym (length-map l (weight_of p.settings.lambda t) ∙ size))

  -- a place inside is one of the first
  inside : (i : ℕ) → get_or mask i false ≡ true → i < end
  inside i e = by_cases (dec_lt i end) (λ h. h) (λ h. absurd (true≢false (sym e ∙ get_or-eq_default mask false {n = i} (omega (arith, mask_size)))))

  labels_are : labels_of mask roots ≡ labels_in p t l
  unfolding labels_in labels_by labels_of
  labels_are =
      labels_agree [] mask roots whole (roots_size ∙ sym whole_size) (λ i e. same i (inside i e))
      ∙ ap (λ (n : ℕ). labels_of mask (roots_of n pairs)) (sym mask_size)
      ∙ ap (λ (m : List Bool). labels_by m pairs) mask_is

  -- of the array that holds them
  pub labelled : (r : List ℤ) → r ≡ label.labels_in roots mask → take end r ≡ labels_in p t l
  labelled r e =
      ap₂ take (sym mask_size) e ∙ labels_first roots mask (omega (arith, mask_size)) roots_size ∙ labels_are

-- a pool of at most 64, what is stored of its groups, and the labels that come of it
module _ (p : Params) (t : Float) (d : ℕ) (pool : List DenMicro) (few : length pool ≤ micros_most) (es : List (ℕ × ℕ))
    (ee : es ≡ pairs_from p.eps2 0 (map (micro_in d) pool)) where
  abbrev n : ℕ
  n = length pool

  abbrev sought : List Bool
  sought = take places (take n (replicate micros_most true))

  pub worked : (w : Work) → w ≡ work_by (find_steps sought es) → w ≡ work_by (find_steps_in p (map (micro_in d) pool))
  unfolding find_steps_in
  worked w e = e ∙ ap work_by (ap₂ find_steps (sought_are pool d few) ee)

  pub grouped :
      (roots : List ℕ) → roots ≡ roots_in sought es → (weights : List Float) →
      take n weights ≡ map (weight_of p.settings.lambda t) (take micros_most pool) →
      (sums : List Float) → sums ≡ sums_of roots (take n weights) → (counts : List Bool) →
      take (length (take n roots)) counts ≡ map (λ (v : ℕ). le p.settings.mu (get_or sums v nan)) (take micros_most (take n roots)) →
      (labels : List ℤ) → labels ≡ label.labels_in roots (take n counts) → take n labels ≡ labels_in p t (map (micro_in d) pool)
  grouped roots er weights ew sums es' counts ec labels el =
      labelled p t (map (micro_in d) pool) n (length-map pool (micro_in d)) few roots
      (er ∙ ap₂ roots_in (sought_are pool d few) ee)
      (roots_low n sought es roots few (omega (arith, length-take places (take n (replicate micros_most true)))) er) (take n weights)
      (ew ∙ ap (map (weight_of p.settings.lambda t)) (take_all micros_most pool few) ∙ sym (map-map (weight_of p.settings.lambda t) (micro_in d) pool))
      sums es' (take n counts)
      (ap (λ (k : ℕ). take k counts) (sym size) ∙ ec
      ∙ ap (map (λ (v : ℕ). le p.settings.mu (get_or sums v nan))) (take_all micros_most (take n roots) (omega (arith, size))))
      labels el
    where
      size : length (take n roots) ≡ n
      size = length-take-le n roots (omega (arith, ap length er, sought_length sought es))
