-- The loop of `joined`: the pairs joined so far and those left. Assumes nothing.
use Prim.Native.Nat.{ℕ, suc, ◌+◌, ◌*◌, ◌<◌, ◌≤◌}
use mathlib.Core.Path.{◌≡◌, refl, sym, ◌∙◌, ap, ap₂, subst}
use mathlib.Core.List.{List, [], ◌∷◌, ◌++◌}
use native.Mathlib.Omega.{arith}
use native.Mathlib.Numerals.{add-one}
use lib.ListN.{length, drop, length-append}
use Rattle.lists.specs.Total.{total}
use Rattle.lists.specs.Laws.Total.{total_append, total_most}
use Rattle.union_find.specs.declared.forest.UnionFind.{UnionFind}
use Rattle.union_find.specs.declared.forest.Work.{Work}
use Rattle.union_find.specs.Forest.{places, new_of, union_of, join_of, join_all}
use Rattle.union_find.specs.Steps.{union_steps, join_steps, joins_steps, work_by}
use Rattle.union_find.specs.Inside.Told.{joins_by}
use Rattle.union_find.specs.Inside.WellFormed.{Sound}
use Rattle.union_find.specs.Laws.Union.{new_law}
use Rattle.union_find.proofs.Laws.Join.{join_in, join_out, steps_in, steps_out, join_sound}
use Rattle.union_find.proofs.Laws.Steps.{joins_few}

-- ---- the two ways of a join
module _ (n : ℕ) (u : UnionFind) (e : ℕ × ℕ) where
  pub join_made :
      e.0 < n →
      e.1 < n →
      {v : UnionFind} {w : Work} →
      (v ≡ union_of u e.0 e.1) × (w ≡ work_by (union_steps u e.0 e.1)) →
      (v ≡ join_of n u e) × (w ≡ work_by (join_steps n u e))
  join_made ha hb r = (r.0 ∙ sym (join_in n u e ha hb), r.1 ∙ ap work_by (sym (steps_in n u e ha hb)))

  pub join_none : (e.0 < n → e.1 < n → ⊥) → (u ≡ join_of n u e) × (work_by [] ≡ work_by (join_steps n u e))
  join_none h = (sym (join_out n u e h), ap work_by (sym (steps_out n u e h)))

-- ---- after k joins the forest is u; with those left it is that of all, and so are the finds and their steps
pub record Joining (n : ℕ) (es : List (ℕ × ℕ)) (u : UnionFind) (finds steps k : ℕ) : Type 0 where
  pub sound : Sound u
  pub forest : join_all n u (drop k es) ≡ join_all n new_of es
  pub found : finds + length (joins_steps n u (drop k es)) ≡ length (joins_steps n new_of es)
  pub halved : steps + total (joins_steps n u (drop k es)) ≡ total (joins_steps n new_of es)

steps_split : (n : ℕ) (u : UnionFind) (e : ℕ × ℕ) (es : List (ℕ × ℕ)) → joins_steps n u (e ∷ es) ≡ join_steps n u e ++ joins_steps n (join_of n u e) es
unfolding joins_steps
steps_split n u e es = refl

-- before the first
pub joining_start : (n : ℕ) (es : List (ℕ × ℕ)) (u : UnionFind) → u ≡ new_of → Joining n es u 0 0 0
joining_start n es u e =
    subst (λ (v : UnionFind). Joining n es v 0 0 0) (sym e) (record { sound = new_law; forest = refl; found = omega arith; halved = omega arith })

module _ (n : ℕ) (hn : n ≤ places) (es : List (ℕ × ℕ)) (u : UnionFind) (finds steps k : ℕ) (j : Joining n es u finds steps k) where
  -- one join more, which leaves the forest v and is the work w
  pub joining_next :
      (e : ℕ × ℕ) →
      drop k es ≡ e ∷ drop (suc k) es →
      (v : UnionFind) (w : Work) →
      v ≡ join_of n u e →
      w ≡ work_by (join_steps n u e) →
      Joining n es v (finds + w.finds) (steps + w.steps) (k + 1)
  joining_next e left v w ev ew =
      subst (λ (x : UnionFind). Joining n es x (finds + w.finds) (steps + w.steps) (k + 1)) (sym ev)
      (subst (λ (x : Work). Joining n es (join_of n u e) (finds + x.finds) (steps + x.steps) (k + 1)) (sym ew)
      (subst (Joining n es (join_of n u e) (finds + length (join_steps n u e)) (steps + total (join_steps n u e))) (sym (add-one k))
      (record { sound = join_sound n u e hn j.sound; forest = ap (join_all n u) (sym left) ∙ j.forest; found = found; halved = halved })))
    where
      split : joins_steps n u (drop k es) ≡ join_steps n u e ++ joins_steps n (join_of n u e) (drop (suc k) es)
      split = ap (joins_steps n u) left ∙ steps_split n u e (drop (suc k) es)

      found :
          finds + length (join_steps n u e) + length (joins_steps n (join_of n u e) (drop (suc k) es)) ≡ length (joins_steps n new_of es)
      found =
          omega (arith, j.found, ap length split, length-append (join_steps n u e) (joins_steps n (join_of n u e) (drop (suc k) es)))

      halved : steps + total (join_steps n u e) + total (joins_steps n (join_of n u e) (drop (suc k) es)) ≡ total (joins_steps n new_of es)
      halved = omega (arith, j.halved, ap total split, total_append (join_steps n u e) (joins_steps n (join_of n u e) (drop (suc k) es)))

  -- two finds a pair at most, and three steps a find
  pub joining_few : (finds ≤ 2 * length es) × (steps ≤ 6 * length es)
  joining_few =
      let f = joins_few n hn es new_of new_law in
      (omega (arith, j.found, f.count), omega (arith, j.halved, f.count, total_most 3 (joins_steps n new_of es) f.few))

  -- no pair is left
  pub joining_end :
      drop k es ≡ [] → record { forest = u; work = record { finds = finds; steps = steps } } ≡ joins_by (join_all n new_of es) (joins_steps n new_of es)
  unfolding joins_steps
  joining_end e =
      rw (← j.forest, ← j.found, ← j.halved, e)
      (ap₂ (λ (f s : ℕ). record { forest = u; work = record { finds = f; steps = s } }) (omega arith) (omega arith))
