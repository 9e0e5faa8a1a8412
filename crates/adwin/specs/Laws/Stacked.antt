-- Lists of buckets in which classes never rise from older to newer, with at most 6 in each.
use Rattle.std.specs.Prelude.{◌≡◌, ℕ, suc, ◌+◌, ◌<◌, ◌≤◌, List, [], ◌∷◌, ◌++◌, reverse, refl}
use Rattle.std.proofs.Common.{ap, ◌∙◌, subst, arith, eq-eqb, ne_eqb}
use mathlib.Core.List.{reverse-cons, reverse-reverse}
use Rattle.std.proofs.Math.Logic.{by_cases}
use Rattle.std.proofs.Math.Decide.{ℕ_discrete}
use Rattle.adwin.specs.Settings.{cap}
use Rattle.adwin.specs.Buckets.{Classed}
use Rattle.adwin.specs.History.{values_in, Sized, count_of, Below, NeverRising}

-- newest first, a list that follows k buckets of the class c
pub data Stacked : ℕ → ℕ → List Classed → Type 0 where
  none : {c k : ℕ} → Stacked c k []
  same : {c k : ℕ} {b : Classed} {l : List Classed} → b.class ≡ c → k < cap → Stacked c (suc k) l → Stacked c k (b ∷ l)
  next : {c k : ℕ} {b : Classed} {l : List Classed} → c < b.class → Stacked b.class 1 l → Stacked c k (b ∷ l)

-- the newest of a stacked list are stacked
pub stacked_front : {c k : ℕ} (l m : List Classed) → Stacked c k (l ++ m) → Stacked c k l
stacked_front [] m s = none
stacked_front (b ∷ l) m (same e h s) = same e h (stacked_front l m s)
stacked_front (b ∷ l) m (next h s) = next h (stacked_front l m s)

-- ---- what a list of buckets has, by its parts
pub values_append : (l m : List Classed) → values_in (l ++ m) ≡ values_in l + values_in m
values_append [] m = omega arith
values_append (b ∷ l) m = let e : values_in (l ++ m) ≡ values_in l + values_in m = values_append l m in omega arith

-- the order of buckets does not change what they stand for
pub values_reverse : (l : List Classed) → values_in (reverse l) ≡ values_in l
values_reverse [] = refl
values_reverse (b ∷ l) =
    ap values_in (reverse-cons b l) ∙ values_append (reverse l) (b ∷ []) ∙ (let e : values_in (reverse l) ≡ values_in l = values_reverse l in omega arith)

-- sized lists one after the other
pub sized_append : (l m : List Classed) → Sized l → Sized m → Sized (l ++ m)
sized_append [] m p q = q
sized_append (b ∷ l) m p q = (p.0, sized_append l m p.1 q)

-- the later part of a sized list
pub sized_back : (l m : List Classed) → Sized (l ++ m) → Sized m
sized_back [] m p = p
sized_back (b ∷ l) m p = sized_back l m p.1

-- the earlier part of a sized list
pub sized_front : (l m : List Classed) → Sized (l ++ m) → Sized l
sized_front [] m p = tt
sized_front (b ∷ l) m p = (p.0, sized_front l m p.1)

-- a sized list turned round
pub sized_reverse : (l : List Classed) → Sized l → Sized (reverse l)
sized_reverse [] p = tt
sized_reverse (b ∷ l) p = rw reverse-cons (sized_append (reverse l) (b ∷ []) (sized_reverse l p.1) (p.0, tt))

count_append : (c : ℕ) (l m : List Classed) → count_of c (l ++ m) ≡ count_of c l + count_of c m
count_append c [] m = omega arith
count_append c (b ∷ l) m = let e : count_of c (l ++ m) ≡ count_of c l + count_of c m = count_append c l m in omega arith

count_reverse : (c : ℕ) (l : List Classed) → count_of c (reverse l) ≡ count_of c l
count_reverse c [] = refl
count_reverse c (b ∷ l) =
    ap (count_of c) (reverse-cons b l) ∙ count_append c (reverse l) (b ∷ []) ∙ (let e : count_of c (reverse l) ≡ count_of c l = count_reverse c l in omega arith)

below_append : (c : ℕ) (l m : List Classed) → Below c l → Below c m → Below c (l ++ m)
below_append c [] m p q = q
below_append c (b ∷ l) m p q = (p.0, below_append c l m p.1 q)

below_reverse : (c : ℕ) (l : List Classed) → Below c l → Below c (reverse l)
below_reverse c [] p = tt
below_reverse c (b ∷ l) p = rw reverse-cons (below_append c (reverse l) (b ∷ []) (below_reverse c l p.1) (p.0, tt))

-- ---- at most 6 in a class
none_below : {c k : ℕ} (e : ℕ) (l : List Classed) → Stacked c k l → e < c → count_of e l ≡ 0
none_below e [] none h = refl
none_below e (b ∷ l) (same q g s) h = let i : count_of e l ≡ 0 = none_below e l s h in rw (ne_eqb b.class e (λ u. absurd (omega arith))) (omega arith)
none_below e (b ∷ l) (next g s) h =
    let i : count_of e l ≡ 0 = none_below e l s (omega arith) in rw (ne_eqb b.class e (λ u. absurd (omega arith))) (omega arith)

here : {c k : ℕ} (l : List Classed) → Stacked c k l → k ≤ cap → count_of c l + k ≤ cap
here [] none h = omega arith
here {c} {k} (b ∷ l) (same q g s) h = let i : count_of c l + suc k ≤ cap = here l s (omega arith) in rw (eq-eqb b.class c q) (omega arith)
here {c} {k} (b ∷ l) (next g s) h = let i : count_of c l ≡ 0 = none_below c l s g in rw (ne_eqb b.class c (λ u. absurd (omega arith))) (omega arith)

anywhere : {c k : ℕ} (e : ℕ) (l : List Classed) → Stacked c k l → k ≤ cap → count_of e l ≤ cap
anywhere e [] none h = omega arith
anywhere {c} {k} e (b ∷ l) (same q g s) h =
    let i : count_of e l ≤ cap = anywhere e l s (omega arith) in
    let o : count_of c (b ∷ l) + k ≤ cap = here (b ∷ l) (same q g s) h in
    by_cases (ℕ_discrete b.class e) (λ u. let v : c ≡ e = omega arith in subst (λ (j : ℕ). count_of j (b ∷ l) ≤ cap) v (omega arith))
    (λ u. rw (ne_eqb b.class e u) (omega arith))
anywhere {c} {k} e (b ∷ l) (next g s) h =
    let i : count_of e l ≤ cap = anywhere e l s (omega arith) in
    let o : count_of b.class l + 1 ≤ cap = here l s (omega arith) in
    by_cases (ℕ_discrete b.class e) (λ u. rw (eq-eqb b.class e u)
    (let v : count_of e l + 1 ≤ cap = subst (λ (j : ℕ). count_of j l + 1 ≤ cap) u o in omega arith)) (λ u. rw (ne_eqb b.class e u) (omega arith))

-- a stacked list has at most 6 of a class
pub at_most_cap : (l : List Classed) → Stacked 0 0 (reverse l) → (c : ℕ) → count_of c l ≤ cap
at_most_cap l s c = omega (arith, count_reverse c l, anywhere c (reverse l) s (omega arith))

-- ---- classes never rise
last_highest : {c k : ℕ} (l : List Classed) (b : Classed) → Stacked c k (l ++ b ∷ []) → (c ≤ b.class) × Below b.class l
last_highest [] b (same e h s) = (omega arith, tt)
last_highest [] b (next h s) = (omega arith, tt)
last_highest {c} (x ∷ l) b (same {k = k} e h s) = let r = last_highest l b s in (r.0, (omega (arith, r.0), r.1))
last_highest (x ∷ l) b (next h s) = let r = last_highest l b s in (omega (arith, r.0), (r.0, r.1))

-- its classes never rise towards the newest
pub never_rises : (l : List Classed) → Stacked 0 0 (reverse l) → NeverRising l
never_rises [] s = tt
never_rises (b ∷ l) s =
    let t : Stacked 0 0 (reverse l ++ b ∷ []) = subst (λ (m : List Classed). Stacked 0 0 m) (reverse-cons b l) s in (
      subst (Below b.class) (reverse-reverse l) (below_reverse b.class (reverse l) (last_highest (reverse l) b t).1),
      never_rises l
          (stacked_front (reverse l) (b ∷ []) t),
    )
