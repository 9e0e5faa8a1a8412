-- A feature kept in more places than a point has coordinates: what is done to it is done to the feature so cut. Assumes nothing.
use Rattle.std.specs.Prelude.{ℕ, zero, suc, ◌≤◌, ◌≡◌, refl, List, [], ◌∷◌, Float, length, take, replicate}
use Rattle.std.proofs.Common.{arith, ap}
use Rattle.float.specs.Rounded.{◌⊕◌, ◌⊖◌, ◌⊗◌, nought}
use Rattle.feature.specs.declared.spherical.Spherical.{Spherical}
use Rattle.feature.specs.Distance.{sum_from}
use Rattle.feature.specs.Feature.{max_dim, moved, pushed, empty, within}

-- cut to the coordinates that a point has, a push is the push of the feature so cut
pub sum_within : (s : Float) (n : ℕ) (xs ms : List Float) → length xs ≡ n → sum_from s xs (take n ms) ≡ sum_from s xs ms
unfolding sum_from
sum_within s n [] ms h = refl
sum_within s zero (x ∷ xs) ms h = absurd (omega arith)
sum_within s (suc n) (x ∷ xs) [] h = refl
sum_within s (suc n) (x ∷ xs) (m ∷ ms) h = sum_within (s ⊕ (x ⊖ m) ⊗ (x ⊖ m)) n xs ms (let k : length xs ≡ n = omega arith in k)

-- moving the mean in the first n places
pub moved_within : (f : Float) (n : ℕ) (ms xs : List Float) → length xs ≡ n → take n (moved f ms xs) ≡ moved f (take n ms) xs
unfolding moved
moved_within f zero [] xs h = refl
moved_within f zero (m ∷ ms) [] h = refl
moved_within f zero (m ∷ ms) (x ∷ xs) h = absurd (omega arith)
moved_within f (suc n) [] xs h = refl
moved_within f (suc n) (m ∷ ms) [] h = absurd (omega arith)
moved_within f (suc n) (m ∷ ms) (x ∷ xs) h =
    ap (λ (l : List Float). (m ⊕ f ⊗ (x ⊖ m)) ∷ l) (moved_within f n ms xs (let k : length xs ≡ n = omega arith in k))

-- a push in the first n places
pub pushed_within : (n : ℕ) (s : Spherical) (x : List Float) → length x ≡ n → within n (pushed s x) ≡ pushed (within n s) x
pushed_within n s x h = rw (moved_within _ n s.mean x h, sum_within nought n x s.mean h)

take_replicate : (n m : ℕ) (a : Float) → n ≤ m → take n (replicate m a) ≡ replicate n a
take_replicate zero m a h = refl
take_replicate (suc n) zero a h = absurd (omega arith)
take_replicate (suc n) (suc m) a h = ap (λ (l : List Float). a ∷ l) (take_replicate n m a (let k : n ≤ m = omega arith in k))

-- no points in the first n places
pub empty_within : (n : ℕ) → n ≤ max_dim → within n (empty max_dim) ≡ empty n
empty_within n h = rw (take_replicate n max_dim nought h)
