-- What is done to the arrays of the pools is done to the stream that keeps them. Assumes nothing.
use Rattle.std.specs.Prelude.{ℕ, zero, suc, ◌+◌, ◌≤◌, ◌<◌, ◌≡◌, refl, List, [], ◌∷◌, ◌++◌, map, Float, length, take, set}
use Rattle.std.proofs.Common.{ap, ap₂, ◌∙◌, arith, length-take, length-take-le}
use Rattle.std.proofs.lemmas.List.{length-map, take_more_set}
use Rattle.lists.specs.Retain.{retain, without}
use Rattle.lists.specs.Laws.Rest.{take_set}
use Rattle.lists.specs.Laws.Maps.{map_set, map_append, map_retain}
use Rattle.lists.specs.Laws.Sizes.{retain_length, without_length}
use Rattle.model.specs.declared.micro.DenMicro.{DenMicro}
use Rattle.model.specs.Limits.{micros_most}
use Rattle.model.specs.DenState.{Params, Holdings, pooled}
use Rattle.model.specs.DenInsert.{potential_stays, outlier_stays, pruned}
use Rattle.den_pool.specs.Held.{micro_in, seen}
use Rattle.den_placement.specs.declared.choice.Target.TheVariants.{Potential, Promotion, Outlier, Newborn}
use Rattle.den_placement.specs.Pools.{potential_held, outliers_held, pools_of}
use Rattle.den_placement.specs.Placing.{pooled_at, Ready}

-- how many are seen
pub held_length : (dim n : ℕ) (l : List DenMicro) → n ≤ length l → length (seen dim n l) ≡ n
held_length dim n l h = length-map (take n l) (micro_in dim) ∙ length-take-le n l h

map_without : {A B : Type 0} (f : A → B) (i : ℕ) (l : List A) → map f (without i l) ≡ without i (map f l)
unfolding without
map_without f i [] = refl
map_without f zero (x ∷ xs) = refl
map_without {A} {B} f (suc i) (x ∷ xs) = ap (λ (r : List B). f x ∷ r) (map_without f i xs)

seen_set : (dim n : ℕ) (l : List DenMicro) (i : ℕ) (m : DenMicro) → seen dim n (set l i m) ≡ set (seen dim n l) i (micro_in dim m)
seen_set dim n l i m = ap (map (micro_in dim)) (take_set n l i m) ∙ map_set (micro_in dim) (take n l) i m

-- one more at the end
seen_more : (dim n k : ℕ) (l : List DenMicro) (m : DenMicro) → n < length l → k ≡ n + 1 → seen dim k (set l n m) ≡ seen dim n l ++ micro_in dim m ∷ []
seen_more dim n k l m h e =
    ap (λ (j : ℕ). seen dim j (set l n m)) e
    ∙ ap (map (micro_in dim)) (take_more_set l n m h)
    ∙ map_append (micro_in dim) (take n l) (m ∷ [])

module _ (d : ℕ) (potential : List DenMicro) (potential_count : ℕ) (outliers : List DenMicro) (outlier_count : ℕ) where
  abbrev s : Holdings
  s = pools_of d potential potential_count outliers outlier_count

  -- one absorbs where it is
  module _ (place : ℕ) (m : DenMicro) where
    pub potential_absorbs : pools_of d (set potential place m) potential_count outliers outlier_count ≡ pooled_at (Potential place) (micro_in d m) s
    potential_absorbs = ap (λ (l : List DenMicro). pooled l s.outliers) (seen_set d (potential_held potential_count) potential place m)

    pub outlier_absorbs : pools_of d potential potential_count (set outliers place m) outlier_count ≡ pooled_at (Outlier place) (micro_in d m) s
    outlier_absorbs = ap (pooled s.potential) (seen_set d (outliers_held potential_count outlier_count) outliers place m)

  module _ (lp : length potential ≡ micros_most) (lo : length outliers ≡ micros_most) where
    abbrev np : ℕ
    np = potential_held potential_count

    abbrev no : ℕ
    no = outliers_held potential_count outlier_count

    pub potential_length : length s.potential ≡ np
    potential_length = held_length d np potential (omega arith)

    pub outliers_length : length s.outliers ≡ no
    outliers_length = held_length d no outliers (omega arith)

    -- an outlier that grew moves to the end of the potential ones; left is what the others leave of their array
    pub promotes :
        (place : ℕ) (m : DenMicro) → Ready (Promotion place) s → (left : List DenMicro) (count : ℕ) → take count left ≡ without place (take no outliers) → count ≡ length (take count left) →
        pools_of d (set potential np m) (np + 1) left count ≡ pooled_at (Promotion place) (micro_in d m) s
    promotes place m r left count el cl =
        let q : place < no = omega (arith, r, outliers_length) in
        let o_size : length (take no outliers) ≡ no = length-take-le no outliers (omega arith) in
        let a : length (without place (take no outliers)) + 1 ≡ length (take no outliers) = without_length place (take no outliers) (omega (arith, o_size)) in
        let b : count ≡ length (without place (take no outliers)) = cl ∙ ap length el in
        ap₂ pooled
        (seen_more d np (potential_held (np + 1)) potential m (omega arith) (omega arith))
        (ap (λ (n : ℕ). seen d n left) (let c : outliers_held (np + 1) count ≡ count = omega (arith, o_size) in c)
        ∙ ap (map (micro_in d)) el ∙ map_without (micro_in d) place (take no outliers))

    -- a new outlier at the end
    pub comes : (m : DenMicro) → Ready Newborn s → pools_of d potential potential_count (set outliers no m) (no + 1) ≡ pooled_at Newborn (micro_in d m) s
    comes m r =
        let q : np + no < micros_most = omega (arith, r, potential_length, outliers_length) in
        ap (pooled s.potential) (seen_more d no (outliers_held potential_count (no + 1)) outliers m (omega arith) (omega arith))

    -- a pruning of both pools; kept and left are what it leaves of their arrays
    pub prunes :
        (p : Params) (t : Float) (kept left : List DenMicro) (k n : ℕ) →
        take k kept ≡ retain (potential_stays p t) (take np potential) →
        k ≡ length (take k kept) →
        take n left ≡ retain (outlier_stays p t) (take no outliers) →
        n ≡ length (take n left) →
        pools_of d kept k left n ≡ pruned p t s
    prunes p t kept left k n ek ck en cn =
        let n1 : k ≡ length (retain (potential_stays p t) (take np potential)) = ck ∙ ap length ek in
        let n2 : n ≡ length (retain (outlier_stays p t) (take no outliers)) = cn ∙ ap length en in
        let i : k ≤ np = omega (arith, n1, length-take np potential, retain_length (potential_stays p t) (take np potential)) in
        let j : n ≤ no = omega (arith, n2, length-take no outliers, retain_length (outlier_stays p t) (take no outliers)) in
        ap₂ pooled
        (ap (λ (v : ℕ). seen d v kept) (let c : potential_held k ≡ k = omega arith in c)
        ∙ ap (map (micro_in d)) ek ∙ map_retain (micro_in d) (potential_stays p t) (take np potential))
        (ap (λ (v : ℕ). seen d v left) (let c : outliers_held k n ≡ n = omega arith in c)
        ∙ ap (map (micro_in d)) en ∙ map_retain (micro_in d) (outlier_stays p t) (take no outliers))
