-- `map` and the other operations of lists. Assumes nothing.
use Rattle.std.specs.Prelude.{ℕ, zero, suc, ◌≡◌, Bool, length, take, drop, get_or, set}
use Rattle.std.proofs.Math.Path.{refl, ap}
use mathlib.Core.List.{List, [], ◌∷◌, ◌++◌, map}
use Rattle.std.proofs.Math.Bool.{true, false, cond}
use Rattle.lists.specs.Retain.{retain}
use Rattle.lists.specs.Search.{first_of}

module _ {ℓ} {A B : Type ℓ} (f : A → B) where
  pub map_take : (n : ℕ) (l : List A) → map f (take n l) ≡ take n (map f l)
  map_take zero l = refl
  map_take (suc n) [] = refl
  map_take (suc n) (x ∷ xs) = ap (λ (r : List B). f x ∷ r) (map_take n xs)

  -- a map and what is left
  pub map_drop : (n : ℕ) (l : List A) → map f (drop n l) ≡ drop n (map f l)
  map_drop zero l = refl
  map_drop (suc n) [] = refl
  map_drop (suc n) (x ∷ xs) = map_drop n xs

  -- a map and a place set
  pub map_set : (l : List A) (i : ℕ) (a : A) → map f (set l i a) ≡ set (map f l) i (f a)
  map_set [] i a = refl
  map_set (x ∷ xs) zero a = refl
  map_set (x ∷ xs) (suc i) a = ap (λ (r : List B). f x ∷ r) (map_set xs i a)

  -- a map and a place read
  pub map_get_d : (l : List A) (i : ℕ) (d : A) → get_or (map f l) i (f d) ≡ f (get_or l i d)
  map_get_d [] i d = refl
  map_get_d (x ∷ xs) zero d = refl
  map_get_d (x ∷ xs) (suc i) d = map_get_d xs i d

  -- a map and lists one after the other
  pub map_append : (l r : List A) → map f (l ++ r) ≡ map f l ++ map f r
  map_append [] r = refl
  map_append (x ∷ xs) r = ap (λ (q : List B). f x ∷ q) (map_append xs r)

  -- a map keeps the length
  pub map_length : (l : List A) → length (map f l) ≡ length l
  map_length [] = refl
  map_length (x ∷ xs) = ap suc (map_length xs)

  -- a map and what is kept
  pub map_retain : (p : B → Bool) (l : List A) → map f (retain (λ (a : A). p (f a)) l) ≡ retain p (map f l)
  unfolding retain
  map_retain p [] = refl
  map_retain p (x ∷ xs) = go (p (f x)) (map_retain p xs)
    where
      go :
          (t : Bool) → map f (retain (λ (a : A). p (f a)) xs) ≡ retain p (map f xs) →
          map f (cond t (x ∷ retain (λ (a : A). p (f a)) xs) (retain (λ (a : A). p (f a)) xs)) ≡ cond t (f x ∷ retain p (map f xs)) (retain p (map f xs))
      go true e = ap (λ (r : List B). f x ∷ r) e
      go false e = e

-- a map and a search
pub map_first :
    {A B C : Type 0} (g : A → B) (p : B → Bool) (f : B → C) (d : C) (l : List A) →
    first_of (λ (a : A). p (g a)) (λ (a : A). f (g a)) d l ≡ first_of p f d (map g l)
unfolding first_of
map_first g p f d [] = refl
map_first {A} {B} {C} g p f d (x ∷ xs) = ap (λ (r : C). cond (p (g x)) (f (g x)) r) (map_first g p f d xs)
