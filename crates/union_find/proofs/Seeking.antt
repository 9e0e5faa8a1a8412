-- The loop of `roots`: the places passed and those left. Assumes nothing.
use Prim.Native.Nat.{ℕ, suc, ◌+◌, ◌*◌, ◌<◌, ◌≤◌, min}
use mathlib.Core.Path.{◌≡◌, refl, sym, ◌∙◌, ap, ap₂, subst}
use mathlib.Core.Logic.{by_cases}
use mathlib.Core.Bool.{Bool, true, false, cond}
use mathlib.Core.List.{List, [], ◌∷◌}
use native.Mathlib.Omega.{arith}
use native.Mathlib.Numerals.{add-one}
use native.Mathlib.Decide.{ℕ_discrete, dec_lt}
use lib.ListN.{length, get_or, set, drop, length-set, length-replicate, replicate, length-append, get_or-eq_default, get_or-replicate}
use lib.Seq.{drop-cons, drop-length, get_or-set_same, get_or-set_other, ext_get_or}
use Rattle.lists.specs.Total.{total}
use Rattle.lists.specs.Laws.Total.{total_append}
use Rattle.union_find.specs.declared.forest.UnionFind.{UnionFind}
use Rattle.union_find.specs.declared.forest.Reached.{Reached}
use Rattle.union_find.specs.declared.forest.Joins.{Joins}
use Rattle.union_find.specs.Forest.{places, new_of, Found, find_of, join_all, roots_of, roots_in}
use Rattle.union_find.specs.Steps.{joins_steps, seek_steps, places_from, find_steps, work_by}
use Rattle.union_find.specs.Inside.Told.{found_told, joins_by}
use Rattle.union_find.specs.Inside.WellFormed.{Sound}
use Rattle.union_find.specs.Laws.WellFormed.{root_of}
use Rattle.union_find.specs.Laws.Find.{Finds, find_law}
use Rattle.union_find.proofs.Laws.Root.{forest_tells, root_at, sought_length, sought_at}
use Rattle.union_find.proofs.Laws.Steps.{finds_most, steps_most}

-- the places passed, with a forest u that the finds have made of u₀: their roots are noted where they are sought
pub record Seeking (sought : List Bool) (es : List (ℕ × ℕ)) (u₀ u : UnionFind) (roots : List ℕ) (finds steps i : ℕ) : Type 0 where
  pub sound : Sound u
  pub same : (k : ℕ) → k < places → root_of u.parent k ≡ root_of u₀.parent k
  pub size : length roots ≡ places
  pub within : i ≤ length sought
  pub noted : (k : ℕ) → k < i → get_or roots k 0 ≡ cond (get_or sought k false) (root_of u₀.parent k) 0
  pub unset : (k : ℕ) → i ≤ k → get_or roots k 0 ≡ 0
  -- with the finds left it is all finds, and all their steps
  pub found : finds + length (seek_steps u.parent (places_from i (drop i sought))) ≡ length (find_steps sought es)
  pub halved : steps + total (seek_steps u.parent (places_from i (drop i sought))) ≡ total (find_steps sought es)

-- the finds left from the place i on
module _ (sought : List Bool) (p : List ℕ) (i : ℕ) where
  left_taken :
      i < length sought → get_or sought i false ≡ true →
      seek_steps p (places_from i (drop i sought)) ≡ (find_of p i).steps ∷ seek_steps (find_of p i).parent (places_from (suc i) (drop (suc i) sought))
  unfolding seek_steps places_from
  left_taken h b = rw (drop-cons sought i false h, b, add-one i)

  left_passed :
      i < length sought → get_or sought i false ≡ false →
      seek_steps p (places_from i (drop i sought)) ≡ seek_steps p (places_from (suc i) (drop (suc i) sought))
  unfolding places_from
  left_passed h b = rw (drop-cons sought i false h, b, add-one i)

  left_none : i ≡ length sought → seek_steps p (places_from i (drop i sought)) ≡ []
  unfolding seek_steps places_from
  left_none e = rw (e, drop-length sought)

zeros : (n k : ℕ) → ◌≡◌ {A = ℕ} (get_or (replicate n 0) k 0) 0
zeros n k =
    by_cases (dec_lt k n) (λ h. get_or-replicate n k 0 0 h)
    (λ h. get_or-eq_default {A = ℕ} (replicate n 0) 0 (omega (arith, length-replicate {A = ℕ} n 0)))

module _ (sought : List Bool) (es : List (ℕ × ℕ)) where
  abbrev end : ℕ
  end = min (length sought) places

  abbrev forest : UnionFind
  forest = join_all end new_of es

  -- before the first place, with what the joins give back
  start : Seeking sought es forest forest (replicate places 0) (length (joins_steps end new_of es)) (total (joins_steps end new_of es)) 0
  unfolding find_steps
  start =
      record {
        sound = (forest_tells end (omega arith) es).sound;
        same = λ k hk. refl;
        size = length-replicate {A = ℕ} places 0;
        within = omega arith;
        noted = λ k hk. absurd (omega arith);
        unset = λ k hk. zeros places k;
        found = sym (length-append (joins_steps end new_of es) (seek_steps forest.parent (places_from 0 sought)));
        halved = sym (total_append (joins_steps end new_of es) (seek_steps forest.parent (places_from 0 sought)));
      }

  pub seek_start :
      (n : ℕ) →
      n ≡ end →
      (m : Joins) →
      m ≡ joins_by (join_all n new_of es) (joins_steps n new_of es) →
      Seeking sought es m.forest m.forest (replicate places 0) m.work.finds m.work.steps 0
  seek_start n en m em =
      subst (λ (x : Joins). Seeking sought es x.forest x.forest (replicate places 0) x.work.finds x.work.steps 0)
      (sym (em ∙ ap (λ (k : ℕ). joins_by (join_all k new_of es) (joins_steps k new_of es)) en)) start

module _ (sought : List Bool) (few : length sought ≤ places) (es : List (ℕ × ℕ)) (u₀ u : UnionFind) (roots : List ℕ) (finds steps i : ℕ)
    (s : Seeking sought es u₀ u roots finds steps i) where
  abbrev p : List ℕ
  p = u.parent

  -- the place i is sought: the find gives back f and the forest v
  pub seek_takes :
      i < length sought →
      get_or sought i false ≡ true →
      (f : Reached) (v : UnionFind) →
      found_told v.parent f ≡ find_of p i →
      v.rank ≡ u.rank →
      Seeking sought es u₀ v (set roots i f.root) (finds + 1) (steps + f.steps) (i + 1)
  seek_takes hi b f v e er =
      subst (λ (w : UnionFind). Seeking sought es u₀ w (set roots i f.root) (finds + 1) (steps + f.steps) (i + 1)) (sym left_forest)
      (subst (Seeking sought es u₀ after (set roots i f.root) (finds + 1) (steps + f.steps)) (sym (add-one i))
      (record {
        sound = g.well;
        same = λ k hk. g.same k hk ∙ s.same k hk;
        size = length-set roots i f.root ∙ s.size;
        within = omega arith;
        noted = λ k hk. by_cases (ℕ_discrete k i)
            (λ k=i. subst (λ (m : ℕ). get_or (set roots i f.root) m 0 ≡ cond (get_or sought m false) (root_of u₀.parent m) 0) (sym k=i) here)
            (λ k≠i. get_or-set_other roots i k f.root 0 k≠i ∙ s.noted k (omega arith));
        unset = λ k hk. get_or-set_other roots i k f.root 0 (λ (k=i : k ≡ i). omega arith) ∙ s.unset k (omega arith);
        found = omega (arith, s.found, ap length left);
        halved = omega (arith, s.halved, ap total left, ap (λ (g : Found). g.steps) e);
      }))
    where
      after : UnionFind
      after = record { parent = (find_of p i).parent; rank = u.rank }

      left_forest : v ≡ after
      left_forest = ap₂ (λ (q r : List ℕ). record { parent = q; rank = r }) (ap (λ (g : Found). g.parent) e) er

      g : Finds p u.rank i (find_of p i)
      g = find_law p u.rank s.sound i (omega arith)

      here : get_or (set roots i f.root) i 0 ≡ cond (get_or sought i false) (root_of u₀.parent i) 0
      here = rw b (get_or-set_same roots i f.root 0 (omega (arith, s.size)) ∙ ap (λ (g : Found). g.root) e ∙ g.is_root ∙ s.same i (omega arith))

      left : seek_steps p (places_from i (drop i sought)) ≡ (find_of p i).steps ∷ seek_steps (find_of p i).parent (places_from (suc i) (drop (suc i) sought))
      left = left_taken sought p i hi b

  -- it is not
  pub seek_passes : i < length sought → get_or sought i false ≡ false → Seeking sought es u₀ u roots finds steps (i + 1)
  seek_passes hi b =
      subst (Seeking sought es u₀ u roots finds steps) (sym (add-one i))
      (record {
        sound = s.sound;
        same = s.same;
        size = s.size;
        within = omega arith;
        noted = λ k hk. by_cases (ℕ_discrete k i)
            (λ k=i. subst (λ (m : ℕ). get_or roots m 0 ≡ cond (get_or sought m false) (root_of u₀.parent m) 0) (sym k=i) (rw b (s.unset i (omega arith))))
            (λ k≠i. s.noted k (omega arith));
        unset = λ k hk. s.unset k (omega arith);
        found = omega (arith, s.found, ap length left);
        halved = omega (arith, s.halved, ap total left);
      })
    where
      left : seek_steps p (places_from i (drop i sought)) ≡ seek_steps p (places_from (suc i) (drop (suc i) sought))
      left = left_passed sought p i hi b

  -- the figures stay small
  pub seek_few : (finds ≤ 2 * length es + places) × (steps ≤ 3 * (2 * length es + places))
  seek_few = (
    omega (arith, s.found, finds_most sought es few),
    omega (arith, s.halved, finds_most sought es few, steps_most sought es few),
  )

  -- no place is left
  pub seek_ends :
      i ≡ length sought → u₀ ≡ join_all (min (length sought) places) new_of es →
      (roots ≡ roots_in sought es) × (record { finds = finds; steps = steps } ≡ work_by (find_steps sought es))
  seek_ends e eu = (
    ext_get_or 0 roots (roots_in sought es) (s.size ∙ sym (sought_length sought es))
        (λ k hk. let h : k < places = omega (arith, s.size) in at k h ∙ sym (sought_at sought es k h)),
    ap₂ (λ (f h : ℕ). record { finds = f; steps = h }) (omega (arith, s.found, ap length none)) (omega (arith, s.halved, ap total none)),
  )
    where
      none : seek_steps p (places_from i (drop i sought)) ≡ []
      none = left_none sought p i e

      at : (k : ℕ) → k < places → get_or roots k 0 ≡ cond (get_or sought k false) (get_or (roots_of (length sought) es) k 0) 0
      at k hk =
          by_cases (dec_lt k i)
          (λ h. s.noted k h ∙ ap (λ (r : ℕ). cond (get_or sought k false) r 0) (ap (λ (w : UnionFind). root_of w.parent k) eu ∙ sym (root_at (length sought) es k hk)))
          (λ h. s.unset k (omega arith) ∙ rw (get_or-eq_default sought false {n = k} (omega arith)))
