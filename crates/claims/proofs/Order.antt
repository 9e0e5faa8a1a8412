-- `Each`, `Ascending` and `In` through map, append, a store and a removal.
use mathlib.Core.Path.{◌≡◌, refl, sym, ap}
use mathlib.Core.Logic.{◌⊎◌, inl, inr, ⊎_elim}
use mathlib.Core.Bool.{Bool, true, false, ◌&&◌, ◌||◌, cond, true≢false}
use Prim.Native.Nat.{ℕ, zero, suc}
use lib.ListN.{set}
use mathlib.Core.List.{List, [], ◌∷◌, ◌++◌, map}
use Rattle.lists.specs.Each.{Each}
use Rattle.lists.specs.Laws.Each.{each_append}
use Rattle.lists.specs.Retain.{retain, without}
use Rattle.model.specs.Any.{any}
use Rattle.claims.specs.Lists.{In, Ascending}

-- three tests that pass together pass each
pub and_true : (a b c : Bool) → (a && b && c) ≡ true → (a ≡ true) × (b ≡ true) × (c ≡ true)
and_true true true true e = (refl, refl, refl)
and_true true true false e = absurd (true≢false (sym e))
and_true true false c e = absurd (true≢false (sym e))
and_true false b c e = absurd (true≢false (sym e))

module _ {A : Type 0} where
  -- two statements of each are one
  pub each_both : (P Q : A → Type 0) (l : List A) → Each P l → Each Q l → Each (λ (a : A). P a × Q a) l
  each_both P Q [] d e = tt
  each_both P Q (a ∷ l) d e = ((d.0, e.0), each_both P Q l d.1 e.1)

  pub ascending_snoc : (R : A → A → Type 0) (l : List A) (b : A) → Ascending R l → Each (λ (a : A). R a b) l → Ascending R (l ++ (b ∷ []))
  ascending_snoc R [] b h e = (tt, tt)
  ascending_snoc R (a ∷ l) b h e = (each_append (R a) l (b ∷ []) h.0 (e.0, tt), ascending_snoc R l b h.1 e.1)

  pub ascending_append : (R : A → A → Type 0) (l k : List A) → Ascending R l → Ascending R k → Each (λ (a : A). Each (R a) k) l → Ascending R (l ++ k)
  ascending_append R [] k u v e = v
  ascending_append R (a ∷ l) k u v e = (each_append (R a) l k u.0 e.0, ascending_append R l k u.1 v e.1)

  pub in_append : (a : A) (l k : List A) → In a l → In a (l ++ k)
  in_append a [] k h = absurd h
  in_append a (b ∷ l) k h = ⊎_elim (λ e. inl e) (λ i. inr (in_append a l k i)) h

  pub append_in : (a : A) (l k : List A) → In a (l ++ k) → In a l ⊎ In a k
  append_in a [] k h = inr h
  append_in a (b ∷ l) k h = ⊎_elim (λ e. inl (inl e)) (λ i. ⊎_elim (λ j. inl (inr j)) (λ j. inr j) (append_in a l k i)) h

  pub each_set : (P : A → Type 0) (l : List A) (i : ℕ) (a : A) → P a → Each P l → Each P (set l i a)
  each_set P [] i a p e = tt
  each_set P (b ∷ l) zero a p e = (p, e.1)
  each_set P (b ∷ l) (suc i) a p e = (e.0, each_set P l i a p e.1)

  pub each_without : (P : A → Type 0) (l : List A) (i : ℕ) → Each P l → Each P (without i l)
  unfolding without
  each_without P [] i e = tt
  each_without P (b ∷ l) zero e = e.1
  each_without P (b ∷ l) (suc i) e = (e.0, each_without P l i e.1)

  -- retain
  pub each_retain : (P : A → Type 0) (p : A → Bool) (l : List A) → Each P l → Each P (retain p l)
  unfolding retain
  each_retain P p [] e = tt
  each_retain P p (a ∷ l) e = go (p a) (each_retain P p l e.1)
    where
      go : (b : Bool) → Each P (retain p l) → Each P (cond b (a ∷ retain p l) (retain p l))
      go true ih = (e.0, ih)
      go false ih = ih

  pub ascending_retain : (R : A → A → Type 0) (p : A → Bool) (l : List A) → Ascending R l → Ascending R (retain p l)
  unfolding retain
  ascending_retain R p [] h = tt
  ascending_retain R p (a ∷ l) h = go (p a) (ascending_retain R p l h.1)
    where
      go : (b : Bool) → Ascending R (retain p l) → Ascending R (cond b (a ∷ retain p l) (retain p l))
      go true ih = (each_retain (R a) p l h.0, ih)
      go false ih = ih

  pub retain_passes : (p : A → Bool) (l : List A) → Each (λ (a : A). p a ≡ true) (retain p l)
  unfolding retain
  retain_passes p [] = tt
  retain_passes p (a ∷ l) = go (p a) refl (retain_passes p l)
    where
      go : (b : Bool) → p a ≡ b → Each (λ (a : A). p a ≡ true) (retain p l) → Each (λ (a : A). p a ≡ true) (cond b (a ∷ retain p l) (retain p l))
      go true e ih = (e, ih)
      go false e ih = ih

  pub in_retain : (p : A → Bool) (l : List A) (a : A) → In a (retain p l) → In a l
  unfolding retain
  in_retain p [] a h = h
  in_retain p (b ∷ l) a h = go (p b) h (in_retain p l a)
    where
      go : (c : Bool) → In a (cond c (b ∷ retain p l) (retain p l)) → (In a (retain p l) → In a l) → In a (b ∷ l)
      go true k ih = ⊎_elim (λ e. inl e) (λ i. inr (ih i)) k
      go false k ih = inr (ih k)

  pub any_in : (p : A → Bool) (l : List A) → any p l ≡ true → (a : A) × In a l × (p a ≡ true)
  unfolding any
  any_in p [] e = absurd (true≢false (sym e))
  any_in p (a ∷ l) e = go (p a) refl e (any_in p l)
    where
      Found : Type 0
      Found = (b : A) × In b (a ∷ l) × (p b ≡ true)

      go : (b : Bool) → p a ≡ b → (b || any p l) ≡ true → (any p l ≡ true → (b : A) × In b l × (p b ≡ true)) → Found
      go true q k ih = (a, inl refl, q)
      go false q k ih = let r : (b : A) × In b l × (p b ≡ true) = ih k in (r.0, inr r.1, r.2)

-- map
pub each_map : {A B : Type 0} (P : A → Type 0) (Q : B → Type 0) (f : A → B) → ((a : A) → P a → Q (f a)) → (l : List A) → Each P l → Each Q (map f l)
each_map P Q f h [] e = tt
each_map P Q f h (a ∷ l) e = (h a e.0, each_map P Q f h l e.1)

pub ascending_map :
    {A B : Type 0} (R : A → A → Type 0) (S : B → B → Type 0) (f : A → B) →
    ((a b : A) → R a b → S (f a) (f b)) →
    (l : List A) →
    Ascending R l →
    Ascending S (map f l)
ascending_map R S f h [] e = tt
ascending_map R S f h (a ∷ l) e = (each_map (R a) (S (f a)) f (h a) l e.0, ascending_map R S f h l e.1)

pub in_map : {A B : Type 0} (f : A → B) (l : List A) (a : A) → In a l → In (f a) (map f l)
in_map f [] a h = absurd h
in_map f (b ∷ l) a h = ⊎_elim (λ e. inl (ap f e)) (λ i. inr (in_map f l a i)) h

pub map_in : {A B : Type 0} (f : A → B) (l : List A) (b : B) → In b (map f l) → (a : A) × In a l × (b ≡ f a)
map_in f [] b h = absurd h
map_in {A} {B} f (a ∷ l) b h = ⊎_elim (λ e. (a, inl refl, e)) (λ i. let r : (c : A) × In c l × (b ≡ f c) = map_in f l b i in (r.0, inr r.1, r.2)) h
