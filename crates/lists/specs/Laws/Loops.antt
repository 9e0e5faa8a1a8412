-- The loops over an array, for every element type: in each law what is done and what is left make up the whole. Assumes nothing.
use Rattle.std.specs.Prelude.{ℕ, ◌+◌, ◌≤◌, ◌<◌, ◌≡◌, Bool, true, false, take, get_or, set}
use mathlib.Core.List.{List, ◌∷◌, ◌++◌, map, foldl, append-nil}
use Rattle.std.proofs.Math.Numerals.{add-one}
use native.Mathlib.Omega.{arith}
use Rattle.std.proofs.Math.ListN.{length}
use Rattle.std.proofs.Math.Seq.{take-suc-set, append_snoc}
use Rattle.lists.specs.Retain.{retain}
use Rattle.lists.specs.Search.{first_of}
use Rattle.lists.specs.Laws.Rest.{rest_step, rest_end, rest_set}
use Rattle.lists.specs.Rest.{rest}

module _ {ℓ} {A : Type ℓ} where
  -- ---- a fold: `s = f(s, l[i])` for i from 0
  module _ {B : Type ℓ} (f : B → A → B) (n i : ℕ) (l : List A) (s : B) where
    pub fold_step : (d : A) → i < n → n ≤ length l → foldl f s (rest n i l) ≡ foldl f (f s (get_or l i d)) (rest n (i + 1) l)
    fold_step d h k = rw (rest_step n i l d)

    -- nothing is left to fold
    pub fold_end : n ≤ i → foldl f s (rest n i l) ≡ s
    fold_end h = rw (rest_end n i l)

  -- ---- a retain in place: `if p(l[i]) { l[j] = l[i]; j += 1; }` for i from 0. Done is `take j l`, left is `rest n i l`
  module _ (p : A → Bool) (n i j : ℕ) (l : List A) (d : A) (h : i < n) (k : n ≤ length l) where
    pub retain_take :
        (v : A) →
        j ≤ i →
        v ≡ get_or l i d →
        p v ≡ true →
        take (j + 1) (set l j v) ++ retain p (rest n (i + 1) (set l j v)) ≡ take j l ++ retain p (rest n i l)
    unfolding retain
    retain_take v g e t =
        let q : j < length l = omega arith in
        let b : j < i + 1 = omega arith in
        rw (rest_step n i l d, ← e, t, rest_set n (i + 1) l j v, add-one, take-suc-set l j v, append_snoc (take j l) v)

    -- an element that p refuses is passed over
    pub retain_drop : p (get_or l i d) ≡ false → take j l ++ retain p (rest n (i + 1) l) ≡ take j l ++ retain p (rest n i l)
    unfolding retain
    retain_drop t = rw (rest_step n i l d, t)

  -- nothing is left to look at
  pub retain_end : (p : A → Bool) (n i j : ℕ) (l : List A) → n ≤ i → take j l ++ retain p (rest n i l) ≡ take j l
  unfolding retain
  retain_end p n i j l h = rw (rest_end n i l) (append-nil (take j l))

  -- ---- an insertion in place: `t = l[i]; l[i] = c; c = t;` for i from p, and at n `l[n] = c`. Done is `take i l`, then the one carried, then `rest n i l`
  pub carry_step :
      (n i : ℕ) (l : List A) (d c v : A) →
      i < n →
      n ≤ length l →
      v ≡ get_or l i d →
      take (i + 1) (set l i c) ++ v ∷ rest n (i + 1) (set l i c) ≡ take i l ++ c ∷ rest n i l
  carry_step n i l d c v h k e =
      let q : i < length l = omega arith in
      let b : i < i + 1 = omega arith in
      rw (rest_step n i l d, ← e, rest_set n (i + 1) l i c, add-one, take-suc-set l i c, append_snoc (take i l) c)

  -- the element carried comes last
  pub carry_end : (n i : ℕ) (l : List A) (c : A) → i ≡ n → n < length l → take (n + 1) (set l n c) ≡ take i l ++ c ∷ rest n i l
  carry_end n i l c e h =
      let b : n ≤ i = omega arith in
      rw (rest_end n i l, e, add-one, take-suc-set l n c)

-- ---- a map into another array: `out[i] = f(l[i])` for i from 0. Done is `take i out`, left is `rest n i l`
module _ {ℓ} {A B : Type ℓ} (f : A → B) (n i : ℕ) (l : List A) (out : List B) where
  pub gather_step :
      (d : A) (v : B) →
      i < n →
      n ≤ length l →
      i < length out →
      v ≡ f (get_or l i d) →
      take (i + 1) (set out i v) ++ map f (rest n (i + 1) l) ≡ take i out ++ map f (rest n i l)
  gather_step d v h k o e = rw (rest_step n i l d, ← e, add-one, take-suc-set out i v, append_snoc (take i out) v)

  -- nothing is left to gather
  pub gather_end : n ≤ i → take i out ++ map f (rest n i l) ≡ take i out
  gather_end h = rw (rest_end n i l) (append-nil (take i out))

-- ---- a search: `if p(l[i]) { return f(l[i]); }` for i from 0. Left is `rest n i l`
module _ {A B : Type 0} (p : A → Bool) (f : A → B) (d : B) (n i : ℕ) (l : List A) where
  pub search_here :
      (z : A) →
      i < n →
      n ≤ length l →
      p (get_or l i z) ≡ true →
      first_of p f d (rest n i l) ≡ f (get_or l i z)
  unfolding first_of
  search_here z h k t = rw (rest_step n i l z, t)

  -- p does not hold of the element at i
  pub search_next :
      (z : A) →
      i < n →
      n ≤ length l →
      p (get_or l i z) ≡ false →
      first_of p f d (rest n (i + 1) l) ≡ first_of p f d (rest n i l)
  unfolding first_of
  search_next z h k t = rw (rest_step n i l z, t)

  -- nothing is left to look at
  pub search_end : n ≤ i → first_of p f d (rest n i l) ≡ d
  unfolding first_of
  search_end h = rw (rest_end n i l)
