-- The definitions of the distance and of a push, as a counting loop goes through them. Assumes nothing.
use Prim.Native.Nat.{ℕ, zero, suc, ◌+◌, ◌≤◌, ◌<◌}
use Rattle.std.proofs.Math.Numerals.{add-one}
use native.Mathlib.Omega.{arith}
use Rattle.std.specs.Prelude.{◌≡◌, refl, min, List, [], ◌∷◌, ◌++◌, Float, take, drop, get_or, set}
use Rattle.std.proofs.Common.{ap, ◌∙◌, take-append-drop}
use Rattle.std.specs.Float.Ieee.{nan}
use Rattle.std.proofs.Math.ListN.{length}
use Rattle.std.proofs.Math.Seq.{drop-cons, take-suc-set, drop-set-lt, append_snoc}
use Rattle.lists.specs.Laws.Rest.{rest_step, rest_end}
use Rattle.lists.specs.Rest.{rest}
use Rattle.float.specs.Rounded.{◌⊕◌, ◌⊖◌, ◌⊗◌}
use Rattle.feature.specs.Distance.{sum_from}
use Rattle.feature.specs.Feature.{moved}

-- a turn of the distance, and its end
module _ (n i : ℕ) (a b : List Float) (s : Float) where
  pub sum_step :
      i < n →
      n ≤ length a →
      n ≤ length b →
      sum_from (s ⊕ (get_or a i nan ⊖ get_or b i nan) ⊗ (get_or a i nan ⊖ get_or b i nan)) (rest n (i + 1) a) (rest n (i + 1) b)
      ≡ sum_from s (rest n i a) (rest n i b)
  unfolding sum_from
  sum_step h la lb = rw (rest_step n i a nan, rest_step n i b nan)

  -- no coordinate is left
  pub sum_end : n ≤ i → sum_from s (rest n i a) (rest n i b) ≡ s
  unfolding sum_from
  sum_end h = rw (rest_end n i a)

-- no coordinate is left of one of the points
pub sum_none_left : (s : Float) (xs ys : List Float) → length xs ≡ 0 → s ≡ sum_from s xs ys
unfolding sum_from
sum_none_left s [] ys h = refl
sum_none_left s (x ∷ xs) ys h = absurd (omega arith)

pub sum_none_right : (s : Float) (xs ys : List Float) → length ys ≡ 0 → s ≡ sum_from s xs ys
unfolding sum_from
sum_none_right s [] ys h = refl
sum_none_right s (x ∷ xs) [] h = refl
sum_none_right s (x ∷ xs) (y ∷ ys) h = absurd (omega arith)

-- a turn of push: the mean at i moves, and the rest is left
module _ (n i : ℕ) (ms xs : List Float) (h : i < n) (lm : n ≤ length ms) (lx : n ≤ length xs) (v : Float) where
  pub moved_step :
      (f : Float) → v ≡ get_or ms i nan ⊕ f ⊗ (get_or xs i nan ⊖ get_or ms i nan) →
      take (i + 1) (set ms i v) ++ moved f (drop (i + 1) (set ms i v)) (rest n (i + 1) xs)
      ≡ take i ms ++ moved f (drop i ms) (rest n i xs)
  unfolding moved
  moved_step f e =
      let k : i < length ms = omega arith in
      let j : i < suc i = omega arith in
      rw (rest_step n i xs nan, drop-cons ms i nan, ← e, add-one, take-suc-set ms i v, drop-set-lt (suc i) ms i v, append_snoc (take i ms) v)

  -- one coordinate more, its mean moved
  pub gaps_step :
      (s : Float) →
      sum_from (s ⊕ (get_or xs i nan ⊖ get_or ms i nan) ⊗ (get_or xs i nan ⊖ get_or ms i nan)) (rest n (i + 1) xs) (drop (i + 1) (set ms i v))
      ≡ sum_from s (rest n i xs) (drop i ms)
  unfolding sum_from
  gaps_step s =
      let k : i < length ms = omega arith in
      let j : i < suc i = omega arith in
      rw (rest_step n i xs nan, drop-cons ms i nan, add-one, drop-set-lt (suc i) ms i v)

moved_none : (f : Float) (ms : List Float) → moved f ms [] ≡ ms
unfolding moved
moved_none f [] = refl
moved_none f (m ∷ ms) = refl

module _ (n i : ℕ) (ms xs : List Float) (h : n ≤ i) where
  pub moved_end : (f : Float) → take i ms ++ moved f (drop i ms) (rest n i xs) ≡ ms
  moved_end f = rw (rest_end n i xs) (ap (λ (l : List Float). take i ms ++ l) (moved_none f (drop i ms)) ∙ take-append-drop i ms)

  -- no coordinate is left
  pub gaps_end : (s : Float) → sum_from s (rest n i xs) (drop i ms) ≡ s
  unfolding sum_from
  gaps_end s = rw (rest_end n i xs)

-- a point cut where the mean ends
pub moved_cut : (f : Float) (n : ℕ) (ms xs : List Float) → n ≡ min (length xs) (length ms) → moved f ms (take n xs) ≡ moved f ms xs
unfolding moved
moved_cut f n [] xs h = refl
moved_cut f zero (m ∷ ms) [] h = refl
moved_cut f (suc n) (m ∷ ms) [] h = refl
moved_cut f zero (m ∷ ms) (x ∷ xs) h = absurd (omega arith)
moved_cut f (suc n) (m ∷ ms) (x ∷ xs) h =
    ap (λ (l : List Float). (m ⊕ f ⊗ (x ⊖ m)) ∷ l) (moved_cut f n ms xs (let k : n ≡ min (length xs) (length ms) = omega arith in k))

pub sum_cut : (s : Float) (n : ℕ) (xs ms : List Float) → n ≡ min (length xs) (length ms) → sum_from s (take n xs) ms ≡ sum_from s xs ms
unfolding sum_from
sum_cut s zero [] ms h = refl
sum_cut s (suc n) [] ms h = refl
sum_cut s zero (x ∷ xs) [] h = refl
sum_cut s (suc n) (x ∷ xs) [] h = refl
sum_cut s zero (x ∷ xs) (m ∷ ms) h = absurd (omega arith)
sum_cut s (suc n) (x ∷ xs) (m ∷ ms) h = sum_cut (s ⊕ (x ⊖ m) ⊗ (x ⊖ m)) n xs ms (let k : n ≡ min (length xs) (length ms) = omega arith in k)
