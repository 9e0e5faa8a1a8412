-- The carry, bucket by bucket, from the newest to the oldest. Assumes nothing.
use Rattle.std.proofs.Common.{◌≡◌, ℕ, zero, suc, ◌+◌, ◌<◌, ◌≤◌, List, [], ◌∷◌, ◌++◌, reverse, length, get_or, take, drop, set, sym, refl, ap, ◌∙◌, append_assoc, append-nil, add-one, arith, length-append, drop_of_length-le, length-take-le, drop-cons, get_or-take, take-suc, take-suc-set, take_at, le-ltb, lt-ltb, eq-eqb, ne_eqb}
use mathlib.Core.List.{reverse-append, reverse-cons, reverse-reverse}
use lib.Ieee.{nan}
use lib.Seq.{split_at, get_or_at}
use Rattle.adwin_buckets.specs.declared.bucket.Bucket.{Bucket}
use Rattle.adwin.specs.Settings.{cap}
use Rattle.adwin.specs.Buckets.{Classed, carry, push_of, pair_of, next_class}
use Rattle.adwin_buckets.specs.Bucket.{merged_of}
use Rattle.adwin.specs.View.{classed}
use Rattle.adwin.specs.Inside.Lists.{pair_merged}
use Rattle.std.specs.List.{remove}
use Rattle.lists.specs.Laws.Rest.{take_set}
use Rattle.adwin.proofs.Classes.{with_class, classed_set, classed_length, classed_get_d}

-- what a place past the end reads as
abbrev pub nothing : Classed
nothing = with_class 0 (record { size = nan; total = nan; variance = nan })

-- what the carry makes of l from the bucket at i on, which k newer ones of its class follow
unfoldable pub settled : ℕ → ℕ → List Classed → List Classed
unfolding carry
settled k i l = reverse (carry k (get_or l i nothing) (reverse (take i l))) ++ drop (i + 1) l

reverse_take : (l : List Classed) (j : ℕ) → j < length l → reverse (take (suc j) l) ≡ get_or l j nothing ∷ reverse (take j l)
reverse_take l j h = rw (take-suc l j nothing) (reverse-append (take j l) (get_or l j nothing ∷ []))

back : (x : Classed) (l m : List Classed) → reverse (x ∷ l) ++ m ≡ reverse l ++ x ∷ m
back x l m = rw reverse-cons (append_assoc (reverse l) (x ∷ []) m)

-- nothing is carried any more
same : (l : List Classed) (i : ℕ) → i < length l → reverse (get_or l i nothing ∷ reverse (take i l)) ++ drop (i + 1) l ≡ l
same l i h = back (get_or l i nothing) (reverse (take i l)) (drop (i + 1) l) ∙ rw (reverse-reverse, add-one) (sym (split_at l i nothing h))

-- nothing older: nothing to merge
pub settled_first : (k i : ℕ) (l : List Classed) → i ≡ 0 → 0 < length l → settled k i l ≡ l
unfolding settled
settled_first k i l e h = rw e (same l 0 h)

-- ---- the buckets at j and j + 1 as one of the next class
pair_get : (j : ℕ) (l : List Classed) → suc j < length l → get_or (pair_merged j l) j nothing ≡ pair_of (get_or l j nothing) (get_or l (suc j) nothing)
unfolding pair_merged
pair_get j [] h = absurd (omega arith)
pair_get j (x ∷ []) h = absurd (omega arith)
pair_get zero (x ∷ y ∷ l) h = refl
pair_get (suc j) (x ∷ y ∷ l) h = pair_get j (y ∷ l) (omega arith)

-- one bucket less, and that at j still there
pub pair_inside : (j : ℕ) (l : List Classed) → suc j < length l → j < length (pair_merged j l)
unfolding pair_merged
pair_inside j [] h = absurd (omega arith)
pair_inside j (x ∷ []) h = absurd (omega arith)
pair_inside zero (x ∷ y ∷ l) h = omega arith
pair_inside (suc j) (x ∷ y ∷ l) h = omega (arith, pair_inside j (y ∷ l) (omega arith))

pair_take : (j : ℕ) (l : List Classed) → take j (pair_merged j l) ≡ take j l
unfolding pair_merged
pair_take j [] = refl
pair_take j (x ∷ []) = refl
pair_take zero (x ∷ y ∷ l) = refl
pair_take (suc j) (x ∷ y ∷ l) = ap (λ (r : List Classed). x ∷ r) (pair_take j (y ∷ l))

pair_drop : (j : ℕ) (l : List Classed) → suc j < length l → drop (suc j) (pair_merged j l) ≡ drop (suc (suc j)) l
unfolding pair_merged
pair_drop j [] h = absurd (omega arith)
pair_drop j (x ∷ []) h = absurd (omega arith)
pair_drop zero (x ∷ y ∷ l) h = refl
pair_drop (suc j) (x ∷ y ∷ l) h = pair_drop j (y ∷ l) (omega arith)

pair_is :
    (j : ℕ) (l : List Classed) (v : Classed) → suc j < length l → v ≡ pair_of (get_or l j nothing) (get_or l (suc j) nothing) →
    remove (set l j v) (suc j) ≡ pair_merged j l
unfolding pair_merged
pair_is j [] v h e = absurd (omega arith)
pair_is j (x ∷ []) v h e = absurd (omega arith)
pair_is zero (x ∷ y ∷ l) v h e = ap (λ (w : Classed). w ∷ l) e
pair_is (suc j) (x ∷ y ∷ l) v h e = ap (λ (r : List Classed). x ∷ r) (pair_is j (y ∷ l) v (omega arith) e)

-- ---- the bucket at i, and the next older one at j
module _ (k i j : ℕ) (l : List Classed) (e : i ≡ j + 1) (h : i < length l) where
  opened : settled k i l ≡ reverse (carry k (get_or l i nothing) (get_or l j nothing ∷ reverse (take j l))) ++ drop (i + 1) l
  unfolding settled
  opened =
      let q : j < length l = omega arith in
      let g : i ≡ suc j = omega arith in
      ap (λ (r : List Classed). reverse (carry k (get_or l i nothing) r) ++ drop (i + 1) l) (ap (λ (n : ℕ). reverse (take n l)) g ∙ reverse_take l j q)

  -- the next older one is of another class: the carry ends
  pub settled_other : ((get_or l j nothing).class ≡ (get_or l i nothing).class → ⊥) → settled k i l ≡ l
  unfolding carry
  settled_other n =
      let q : j < length l = omega arith in
      let g : i ≡ suc j = omega arith in
      opened ∙ rw (ne_eqb (get_or l j nothing).class (get_or l i nothing).class n) (rw (← reverse_take l j q, ← g) (same l i h))

  newer_tail : get_or l i nothing ∷ drop (i + 1) l ≡ drop (j + 1) l
  newer_tail = ap (λ (n : ℕ). get_or l i nothing ∷ drop n l) (add-one i) ∙ sym (drop-cons l i nothing h) ∙ ap (λ (n : ℕ). drop n l) e

  -- one more of the class, and still at most 6
  pub settled_next : (get_or l j nothing).class ≡ (get_or l i nothing).class → k + 2 ≤ cap → settled k i l ≡ settled (k + 1) j l
  unfolding carry settled
  settled_next n m =
      opened
      ∙ rw (eq-eqb (get_or l j nothing).class (get_or l i nothing).class n, le-ltb cap (k + 2) m)
      (back (get_or l i nothing) (carry (k + 1) (get_or l j nothing) (reverse (take j l))) (drop (i + 1) l)
      ∙ ap (λ (r : List Classed). reverse (carry (k + 1) (get_or l j nothing) (reverse (take j l))) ++ r) newer_tail)

  -- over 6 of the class: the two oldest merge, and the carry goes on
  pub settled_pair : (get_or l j nothing).class ≡ (get_or l i nothing).class → cap < k + 2 → settled k i l ≡ settled 0 j (pair_merged j l)
  unfolding carry settled
  settled_pair n m =
      let q : suc j < length l = omega arith in
      let p = pair_merged j l in
      let g : pair_of (get_or l j nothing) (get_or l i nothing) ≡ get_or p j nothing =
      ap (λ (n : ℕ). pair_of (get_or l j nothing) (get_or l n nothing)) (e ∙ add-one j) ∙ sym (pair_get j l q) in
      let t : take j l ≡ take j p = sym (pair_take j l) in
      let r : drop (i + 1) l ≡ drop (j + 1) p =
      ap (λ (n : ℕ). drop n l) (add-one i ∙ ap suc (e ∙ add-one j)) ∙ sym (pair_drop j l q) ∙ ap (λ (n : ℕ). drop n p) (sym (add-one j)) in
      opened
      ∙ rw (eq-eqb (get_or l j nothing).class (get_or l i nothing).class n, lt-ltb cap (k + 2) m)
      (ap (λ (y : Classed). reverse (carry 0 y (reverse (take j l))) ++ drop (i + 1) l) g
      ∙ ap (λ (o : List Classed). reverse (carry 0 (get_or p j nothing) (reverse o)) ++ drop (i + 1) l) t
      ∙ ap (λ (o : List Classed). reverse (carry 0 (get_or p j nothing) (reverse (take j p))) ++ o) r)

-- ---- in the arrays
pub class_at : (n j : ℕ) (cs : List ℕ) (bs : List Bucket) → j < length (take n (classed cs bs)) → (get_or (take n (classed cs bs)) j nothing).class ≡ get_or cs j 0
unfolding classed
class_at zero j cs bs h = absurd (omega arith)
class_at (suc n) j [] bs h = absurd (omega arith)
class_at (suc n) j (c ∷ cs) [] h = absurd (omega arith)
class_at (suc n) zero (c ∷ cs) (b ∷ bs) h = refl
class_at (suc n) (suc j) (c ∷ cs) (b ∷ bs) h = class_at n j cs bs (omega arith)

module _ (n j : ℕ) (cs : List ℕ) (bs : List Bucket) (k : n ≤ length bs) (e : length cs ≡ length bs) where
  -- two places merged in both arrays are merged in the row
  pub merged_both :
      (c : ℕ) (b : Bucket) →
      j + 1 < n →
      c ≡ next_class (get_or cs (j + 1) 0) →
      b ≡ merged_of (get_or bs j nothing.bucket) (get_or bs (j + 1) nothing.bucket) →
      remove (take n (classed (set cs j c) (set bs j b))) (j + 1) ≡ pair_merged j (take n (classed cs bs))
  merged_both c b h f g =
      let l = take n (classed cs bs) in
      let w : length l ≡ n = length-take-le n (classed cs bs) (omega (arith, classed_length cs bs e)) in
      let q : suc j < length l = omega arith in
      let y : (m : ℕ) → m < n → with_class (get_or cs m 0) (get_or bs m nothing.bucket) ≡ get_or l m nothing =
      λ m u. sym (get_or-take n (classed cs bs) m nothing u ∙ classed_get_d cs bs m nothing.bucket e) in
      let v : with_class c b ≡ pair_of (get_or l j nothing) (get_or l (suc j) nothing) =
      ap (λ (x : ℕ). with_class x b) f ∙ ap (λ (x : Bucket). with_class (next_class (get_or cs (j + 1) 0)) x) g
      ∙ ap (λ (x : Classed). pair_of x (with_class (get_or cs (j + 1) 0) (get_or bs (j + 1) nothing.bucket))) (y j (omega arith))
      ∙ ap (λ (x : Classed). pair_of (get_or l j nothing) x) (y (j + 1) h)
      ∙ ap (λ (m : ℕ). pair_of (get_or l j nothing) (get_or l m nothing)) (add-one j) in
      rw (classed_set cs bs j c b e, take_set n (classed cs bs) j (with_class c b), add-one j) (pair_is j l (with_class c b) q v)

  -- a bucket put at the end and settled is pushed
  pub pushed_is : (new : Bucket) → n < length bs → settled 0 n (take (n + 1) (classed (set cs n 0) (set bs n new))) ≡ push_of (take n (classed cs bs)) new
  unfolding settled push_of
  pushed_is new h =
      let z = classed cs bs in
      let t = take n z in
      let v = with_class 0 new in
      let u : n < length z = omega (arith, classed_length cs bs e) in
      let w : length t ≡ n = length-take-le n z (omega arith) in
      let l = t ++ v ∷ [] in
      let o : take (n + 1) (classed (set cs n 0) (set bs n new)) ≡ l = rw (classed_set cs bs n 0 new e, add-one) (take-suc-set z n v u) in
      let m : length l ≤ n + 1 = omega (arith, length-append t (v ∷ [])) in
      let r : drop (n + 1) l ≡ [] = drop_of_length-le l m in
      ap (λ (m : List Classed). reverse (carry 0 (get_or m n nothing) (reverse (take n m))) ++ drop (n + 1) m) o
      ∙ ap (λ (x : Classed). reverse (carry 0 x (reverse (take n l))) ++ drop (n + 1) l) (get_or_at t v [] nothing n w)
      ∙ ap (λ (m : List Classed). reverse (carry 0 v (reverse m)) ++ drop (n + 1) l) (take_at t (v ∷ []) n w)
      ∙ ap (λ (m : List Classed). reverse (carry 0 v (reverse t)) ++ m) r
      ∙ append-nil (reverse (carry 0 v (reverse t)))
