-- Document 02, item 8: no find makes more than 3 steps, and how many finds there are. Assumes nothing.
use Rattle.std.specs.Prelude.{ℕ, suc, ◌+◌, ◌*◌, ◌<◌, ◌≤◌, min, ◌≡◌, Bool, true, false, cond}
use Rattle.std.proofs.Math.Path.{refl, ap}
use Rattle.std.proofs.Common.{◌∙◌, arith}
use Rattle.std.proofs.Math.Logic.{by_cases}
use mathlib.Core.List.{List, [], ◌∷◌}
use Rattle.std.proofs.Math.Decide.{dec_lt}
use Rattle.std.proofs.Math.ListN.{length, length-append}
use Rattle.lists.specs.Each.{Each}
use Rattle.lists.specs.Laws.Each.{each_append}
use Rattle.lists.specs.Total.{total}
use Rattle.lists.specs.Laws.Total.{total_most}
use Rattle.union_find.specs.declared.forest.UnionFind.{UnionFind}
use Rattle.union_find.specs.Forest.{places, new_of, find_of, join_of, join_all}
use Rattle.union_find.specs.Steps.{union_steps, join_steps, joins_steps, seek_steps, places_from, find_steps}
use Rattle.union_find.specs.Inside.WellFormed.{WellFormed, Sound}
use Rattle.union_find.specs.Laws.Find.{Finds, find_law}
use Rattle.union_find.specs.Laws.Union.{new_law}
use Rattle.union_find.proofs.Laws.Join.{steps_in, steps_out, join_sound}

abbrev Few : List ℕ → Type 0
Few l = Each (λ (k : ℕ). k ≤ 3) l

-- the finds of one pair
module _ (n : ℕ) (hn : n ≤ places) (u : UnionFind) (s : Sound u) where
  pub union_few : (a b : ℕ) → a < n → b < n → Few (union_steps u a b)
  union_few a b ha hb =
      let f : Finds u.parent u.rank a (find_of u.parent a) = find_law u.parent u.rank s a (omega arith) in
      (f.few, ((find_law (find_of u.parent a).parent u.rank f.well b (omega arith)).few, tt))

  join_few : (e : ℕ × ℕ) → Few (join_steps n u e) × (length (join_steps n u e) ≤ 2)
  join_few e =
      by_cases (dec_lt e.0 n)
      (λ ha. by_cases (dec_lt e.1 n) (λ hb. rw (steps_in n u e ha hb) (union_few e.0 e.1 ha hb, omega arith))
      (λ hb. none (λ ga gb. hb gb)))
      (λ ha. none (λ ga gb. ha ga))
    where
      none : (e.0 < n → e.1 < n → ⊥) → Few (join_steps n u e) × (length (join_steps n u e) ≤ 2)
      none h = rw (steps_out n u e h) (tt, omega arith)

-- the finds of all pairs, and the forest that they leave
pub record JoinsFew (n : ℕ) (u : UnionFind) (es : List (ℕ × ℕ)) : Type 0 where
  pub few : Few (joins_steps n u es)
  pub count : length (joins_steps n u es) ≤ 2 * length es
  pub sound : Sound (join_all n u es)

pub joins_few : (n : ℕ) → n ≤ places → (es : List (ℕ × ℕ)) (u : UnionFind) → Sound u → JoinsFew n u es
unfolding joins_steps
joins_few n hn [] u s = record { few = tt; count = omega arith; sound = s }
joins_few n hn (e ∷ es) u s =
    let r : JoinsFew n (join_of n u e) es = joins_few n hn es (join_of n u e) (join_sound n u e hn s) in
    let f = join_few n hn u s e in
    record {
      few = each_append (λ (k : ℕ). k ≤ 3) (join_steps n u e) (joins_steps n (join_of n u e) es) f.0 r.few;
      count = omega (arith, f.1, r.count, length-append (join_steps n u e) (joins_steps n (join_of n u e) es));
      sound = r.sound;
    }

-- the places that are sought
places_low : (m : ℕ) (bs : List Bool) (i : ℕ) → i + length bs ≤ m → Each (λ (x : ℕ). x < m) (places_from i bs) × (length (places_from i bs) ≤ length bs)
unfolding places_from
places_low m [] i h = (tt, omega arith)
places_low m (b ∷ bs) i h = go b (places_low m bs (i + 1) (omega arith))
  where
    go :
        (t : Bool) →
        Each (λ (x : ℕ). x < m) (places_from (i + 1) bs) × (length (places_from (i + 1) bs) ≤ length bs) →
        Each (λ (x : ℕ). x < m) (cond t (i ∷ places_from (i + 1) bs) (places_from (i + 1) bs))
        × (length (cond t (i ∷ places_from (i + 1) bs) (places_from (i + 1) bs)) ≤ length (b ∷ bs))
    go true r = ((omega arith, r.0), omega (arith, r.1))
    go false r = (r.0, omega (arith, r.1))

-- a find for each of them
seek_few : (r : List ℕ) (xs : List ℕ) (p : List ℕ) → WellFormed p r → Each (λ (x : ℕ). x < places) xs → Few (seek_steps p xs)
unfolding seek_steps
seek_few r [] p w e = tt
seek_few r (x ∷ xs) p w e = let f : Finds p r x (find_of p x) = find_law p r w x e.0 in (f.few, seek_few r xs (find_of p x).parent f.well e.1)

seek_count : (xs : List ℕ) (p : List ℕ) → length (seek_steps p xs) ≡ length xs
unfolding seek_steps
seek_count [] p = refl
seek_count (x ∷ xs) p = ap suc (seek_count xs (find_of p x).parent)

module _ (sought : List Bool) (es : List (ℕ × ℕ)) where
  abbrev n : ℕ
  n = min (length sought) places

  abbrev made : UnionFind
  made = join_all n new_of es

  all_count : length (find_steps sought es) ≡ length (joins_steps n new_of es) + length (places_from 0 sought)
  unfolding find_steps
  all_count =
      length-append (joins_steps n new_of es) (seek_steps made.parent (places_from 0 sought))
      ∙ ap (λ (k : ℕ). length (joins_steps n new_of es) + k) (seek_count (places_from 0 sought) made.parent)

  -- "no find among 64 micro-clusters makes more than 3 steps"
  pub no_find_above_3 : length sought ≤ places → Each (λ (k : ℕ). k ≤ 3) (find_steps sought es)
  unfolding find_steps
  no_find_above_3 h =
      let j : JoinsFew n new_of es = joins_few n (omega arith) es new_of new_law in
      each_append (λ (k : ℕ). k ≤ 3) (joins_steps n new_of es) (seek_steps made.parent (places_from 0 sought)) j.few
      (seek_few made.rank (places_from 0 sought) made.parent j.sound (places_low places sought 0 (omega arith)).0)

  -- so the figures are small: two finds a pair and one a place at most
  pub finds_most : length sought ≤ places → length (find_steps sought es) ≤ 2 * length es + places
  finds_most h =
      omega (arith, all_count, (joins_few n (omega arith) es new_of new_law).count, (places_low places sought 0 (omega arith)).1)

  pub steps_most : length sought ≤ places → total (find_steps sought es) ≤ 3 * length (find_steps sought es)
  steps_most h = total_most 3 (find_steps sought es) (no_find_above_3 h)

  -- "two a join .. then one for each", where the pairs are places of the list
  joins_count :
      (ks : List (ℕ × ℕ)) (u : UnionFind) → Each (λ (e : ℕ × ℕ). (e.0 < n) × (e.1 < n)) ks → length (joins_steps n u ks) ≡ 2 * length ks
  unfolding joins_steps
  joins_count [] u w = refl
  joins_count (e ∷ ks) u w =
      let q : length (join_steps n u e) ≡ 2 = ap length (steps_in n u e w.0.0 w.0.1) in
      omega (arith, length-append (join_steps n u e) (joins_steps n (join_of n u e) ks), joins_count ks (join_of n u e) w.1)

  pub finds_count :
      Each (λ (e : ℕ × ℕ). (e.0 < n) × (e.1 < n)) es → length (find_steps sought es) ≡ 2 * length es + length (places_from 0 sought)
  finds_count w = omega (arith, all_count, joins_count es new_of w)
