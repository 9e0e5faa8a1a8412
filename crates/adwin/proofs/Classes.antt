-- The array of buckets and the array of classes as one list. Assumes nothing.
use Rattle.std.proofs.Common.{◌≡◌, ℕ, zero, suc, List, [], ◌∷◌, ◌++◌, length, get_or, take, drop, set, refl, ap, arith}
use Rattle.adwin_buckets.specs.declared.bucket.Bucket.{Bucket}
use Rattle.adwin.specs.Buckets.{Classed}
use Rattle.adwin.specs.Cut.{buckets_of}
use Rattle.adwin.specs.View.{classed}

-- a bucket with its class
abbrev pub with_class : ℕ → Bucket → Classed
with_class c b = record { class = c; bucket = b }

-- as many as there are buckets
pub classed_length : (cs : List ℕ) (bs : List Bucket) → length cs ≡ length bs → length (classed cs bs) ≡ length bs
unfolding classed
classed_length [] [] h = refl
classed_length [] (b ∷ bs) h = absurd (omega arith)
classed_length (c ∷ cs) [] h = absurd (omega arith)
classed_length (c ∷ cs) (b ∷ bs) h = ap suc (classed_length cs bs (omega arith))

-- a place read in both arrays
pub classed_get_d :
    (cs : List ℕ) (bs : List Bucket) (i : ℕ) (d : Bucket) → length cs ≡ length bs →
    get_or (classed cs bs) i (with_class 0 d) ≡ with_class (get_or cs i 0) (get_or bs i d)
unfolding classed
classed_get_d [] [] i d h = refl
classed_get_d [] (b ∷ bs) i d h = absurd (omega arith)
classed_get_d (c ∷ cs) [] i d h = absurd (omega arith)
classed_get_d (c ∷ cs) (b ∷ bs) zero d h = refl
classed_get_d (c ∷ cs) (b ∷ bs) (suc i) d h = classed_get_d cs bs i d (omega arith)

-- a place set in both arrays
pub classed_set :
    (cs : List ℕ) (bs : List Bucket) (i c : ℕ) (b : Bucket) → length cs ≡ length bs →
    classed (set cs i c) (set bs i b) ≡ set (classed cs bs) i (with_class c b)
unfolding classed
classed_set [] [] i c b h = refl
classed_set [] (y ∷ bs) i c b h = absurd (omega arith)
classed_set (x ∷ cs) [] i c b h = absurd (omega arith)
classed_set (x ∷ cs) (y ∷ bs) zero c b h = refl
classed_set (x ∷ cs) (y ∷ bs) (suc i) c b h = ap (λ (l : List Classed). with_class x y ∷ l) (classed_set cs bs i c b (omega arith))

-- the row without its classes
pub buckets_are : (n : ℕ) (cs : List ℕ) (bs : List Bucket) → length cs ≡ length bs → buckets_of (take n (classed cs bs)) ≡ take n bs
unfolding classed
buckets_are zero cs bs h = refl
buckets_are (suc n) [] [] h = refl
buckets_are (suc n) [] (b ∷ bs) h = absurd (omega arith)
buckets_are (suc n) (c ∷ cs) [] h = absurd (omega arith)
buckets_are (suc n) (c ∷ cs) (b ∷ bs) h = ap (λ (l : List Bucket). b ∷ l) (buckets_are n cs bs (omega arith))

-- the first places, the others, and two rows one after the other
pub classed_take : (n : ℕ) (cs : List ℕ) (bs : List Bucket) → take n (classed cs bs) ≡ classed (take n cs) (take n bs)
unfolding classed
classed_take zero cs bs = refl
classed_take (suc n) [] bs = refl
classed_take (suc n) (c ∷ cs) [] = refl
classed_take (suc n) (c ∷ cs) (b ∷ bs) = ap (λ (l : List Classed). with_class c b ∷ l) (classed_take n cs bs)

none_left : (cs : List ℕ) → [] ≡ classed cs []
unfolding classed
none_left [] = refl
none_left (c ∷ cs) = refl

pub classed_drop : (n : ℕ) (cs : List ℕ) (bs : List Bucket) → drop n (classed cs bs) ≡ classed (drop n cs) (drop n bs)
unfolding classed
classed_drop zero cs bs = refl
classed_drop (suc n) [] bs = refl
classed_drop (suc n) (c ∷ cs) [] = none_left (drop n cs)
classed_drop (suc n) (c ∷ cs) (b ∷ bs) = classed_drop n cs bs

pub classed_append :
    (cs : List ℕ) (bs : List Bucket) (ds : List ℕ) (es : List Bucket) → length cs ≡ length bs →
    classed (cs ++ ds) (bs ++ es) ≡ classed cs bs ++ classed ds es
unfolding classed
classed_append [] [] ds es h = refl
classed_append [] (b ∷ bs) ds es h = absurd (omega arith)
classed_append (c ∷ cs) [] ds es h = absurd (omega arith)
classed_append (c ∷ cs) (b ∷ bs) ds es h = ap (λ (l : List Classed). with_class c b ∷ l) (classed_append cs bs ds es (omega arith))
