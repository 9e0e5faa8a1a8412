-- Equal roots are chains of joined pairs. Assumes nothing.
use Rattle.std.specs.Prelude.{ℕ, ◌<◌, ◌≤◌, min, ◌≡◌, ◌↔◌, ◌⊎◌, Bool, true, false, cond, List, [], ◌∷◌, length, get_or}
use Rattle.std.proofs.Common.{sym, ◌∙◌, ap, subst, inl, inr, ⊎_elim, arith}
use Rattle.std.proofs.Math.Logic.{by_cases}
use Rattle.std.proofs.Math.Decide.{dec_lt}
use Rattle.union_find.specs.declared.forest.UnionFind.{UnionFind}
use Rattle.union_find.specs.Pairs.{Joined, Chain}
use Rattle.union_find.specs.Laws.Chain.{chain_more}
use Rattle.union_find.specs.Laws.Merging.{Also, Within, Kernel, kernel_start, kernel_more}
use Rattle.union_find.specs.Forest.{places, new_of, find_of, union_of, join_of, join_all, roots_of, roots_in}
use Rattle.union_find.specs.Laws.WellFormed.{root_of}
use Rattle.union_find.specs.Inside.WellFormed.{Sound}
use Rattle.union_find.specs.Laws.Find.{find_law}
use Rattle.union_find.specs.Laws.Union.{Joins, union_law, table_length, table_at, new_law, new_root}
use Rattle.union_find.proofs.Laws.Join.{join_in, join_out}

kernel_same : {n : ℕ} {f : ℕ → ℕ} {R S : ℕ → ℕ → Type 0} → ((i j : ℕ) → R i j → S i j) → ((i j : ℕ) → S i j → R i j) → Kernel n f R → Kernel n f S
kernel_same to from k i j hi hj = ((λ e. chain_more to ((k i j hi hj).0 e)), (λ c. (k i j hi hj).1 (chain_more from c)))

-- a forest whose equal roots are the chains of R
pub record Tells (R : ℕ → ℕ → Type 0) (u : UnionFind) : Type 0 where
  pub sound : Sound u
  pub kernel : Kernel places (root_of u.parent) R

module _ (n : ℕ) (hn : n ≤ places) where
  -- after the joins of a list, where R was joined before
  joins : (es : List (ℕ × ℕ)) (u : UnionFind) (R : ℕ → ℕ → Type 0) → Within places R → Tells R u → Tells (λ i j. R i j ⊎ Joined n es i j) (join_all n u es)
  joins [] u R w t = record { sound = t.sound; kernel = kernel_same (λ i j r. inl r) (λ i j. ⊎_elim (λ r. r) (λ x. absurd x.2)) t.kernel }
  joins (e ∷ es) u R w t =
      by_cases (dec_lt e.0 n)
      (λ ha. by_cases (dec_lt e.1 n) (λ hb. into ha hb (joins es (union_of u e.0 e.1) With))
      (λ hb. past (λ ga gb. hb gb) (joins es u R w t)))
      (λ ha. past (λ ga gb. ha ga) (joins es u R w t))
    where
      -- R with the pair
      With : ℕ → ℕ → Type 0
      With = Also R e.0 e.1

      After : UnionFind → Type 0
      After v = Tells (λ i j. R i j ⊎ Joined n (e ∷ es) i j) (join_all n v es)

      into :
          e.0 < n → e.1 < n →
          (Within places With → Tells With (union_of u e.0 e.1) → Tells (λ i j. With i j ⊎ Joined n es i j) (join_all n (union_of u e.0 e.1) es)) →
          After (join_of n u e)
      into ha hb more =
          let ga : e.0 < places = omega arith in
          let gb : e.1 < places = omega arith in
          let j : Joins u e.0 e.1 (union_of u e.0 e.1) = union_law u t.sound e.0 e.1 ga gb in
          let m =
          more (λ a b. ⊎_elim (w a b) (λ s. (omega arith, omega arith))) (record { sound = j.sound; kernel = kernel_more ga gb w j.merges t.kernel }) in
          subst After (sym (join_in n u e ha hb))
          (record {
            sound = m.sound;
            kernel = kernel_same
                (λ a b. ⊎_elim (⊎_elim (λ r. inl r) (λ s. inr (omega arith, omega arith, inl s))) (λ s. inr (s.0, s.1, inr s.2)))
                (λ a b. ⊎_elim (λ r. inl (inl r)) (λ s. ⊎_elim (λ q. inl (inr q)) (λ q. inr (s.0, s.1, q)) s.2)) m.kernel;
          })

      past : (e.0 < n → e.1 < n → ⊥) → Tells (λ i j. R i j ⊎ Joined n es i j) (join_all n u es) → After (join_of n u e)
      past h m =
          subst After (sym (join_out n u e h))
          (record {
            sound = m.sound;
            kernel = kernel_same
                (λ a b. ⊎_elim (λ r. inl r) (λ s. inr (s.0, s.1, inr s.2)))
                (λ a b. ⊎_elim (λ r. inl r)
                (λ s. ⊎_elim (λ q. absurd (h (subst (λ (x : ℕ). x < n) q.0 s.0) (subst (λ (x : ℕ). x < n) q.1 s.1)))
                (λ q. inr (s.0, s.1, q)) s.2)) m.kernel;
          })

  -- from fresh
  pub forest_tells : (es : List (ℕ × ℕ)) → Tells (Joined n es) (join_all n new_of es)
  forest_tells es =
      let m = joins es new_of (λ i j. ⊥) (λ i j r. absurd r)
      (record {
        sound = new_law;
        kernel = λ i j hi hj. (
          (λ e. (kernel_start places i j hi hj).0 (sym (new_root i hi) ∙ e ∙ new_root j hj)),
          (λ c. new_root i hi
              ∙ (kernel_start places i j hi hj).1 c ∙ sym (new_root j hj)),
        );
      }) in
      record { sound = m.sound; kernel = kernel_same (λ i j. ⊎_elim (λ r. absurd r) (λ s. s)) (λ i j s. inr s) m.kernel }

-- the roots of all places after the pairs of the first n were joined
pub record RootsTell (n : ℕ) (es : List (ℕ × ℕ)) (roots : List ℕ) : Type 0 where
  pub count : length roots ≡ places
  -- a root is a place
  pub low : (i : ℕ) → i < places → get_or roots i 0 < places
  -- two roots are equal exactly when a chain of joined pairs leads from the one place to the other
  pub equal : (i j : ℕ) → i < places → j < places → (get_or roots i 0 ≡ get_or roots j 0) ↔ Chain (Joined n es) i j

-- a root after the joins, in the forest that they make
pub root_at : (n : ℕ) (es : List (ℕ × ℕ)) (i : ℕ) → i < places → get_or (roots_of n es) i 0 ≡ root_of (join_all (min n places) new_of es).parent i
unfolding roots_of
root_at n es i hi = table_at places (λ j. (find_of u.parent j).root) 0 i hi ∙ (find_law u.parent u.rank sound i hi).is_root
  where
    u : UnionFind
    u = join_all (min n places) new_of es

    sound : Sound u
    sound = (forest_tells (min n places) (omega arith) es).sound

-- the roots tell which places are chained
pub roots_tell : (n : ℕ) → n ≤ places → (es : List (ℕ × ℕ)) → RootsTell n es (roots_of n es)
unfolding roots_of
roots_tell n hn es =
    record {
      count = table_length places root;
      low = λ i hi. subst (λ (x : ℕ). x < places) (sym (table_at places root 0 i hi)) (find_law u.parent u.rank t.sound i hi).low;
      equal = λ i j hi hj.
          let k = t.kernel i j hi hj in
          ((λ e. k.0 (sym (root_at n es i hi) ∙ e ∙ root_at n es j hj)), (λ c. root_at n es i hi ∙ k.1 c ∙ sym (root_at n es j hj)));
    }
  where
    u : UnionFind
    u = join_all (min n places) new_of es

    root : ℕ → ℕ
    root i = (find_of u.parent i).root

    t : Tells (Joined n es) u
    t = subst (λ (m : ℕ). Tells (Joined n es) (join_all m new_of es)) (omega arith) (forest_tells n hn es)

-- of the roots that are sought
pub sought_length : (sought : List Bool) (es : List (ℕ × ℕ)) → length (roots_in sought es) ≡ places
unfolding roots_in
sought_length sought es = table_length places (λ i. cond (get_or sought i false) (get_or (roots_of (length sought) es) i 0) 0)

pub sought_at :
    (sought : List Bool) (es : List (ℕ × ℕ)) (i : ℕ) → i < places →
    get_or (roots_in sought es) i 0 ≡ cond (get_or sought i false) (get_or (roots_of (length sought) es) i 0) 0
unfolding roots_in
sought_at sought es i hi = table_at places (λ j. cond (get_or sought j false) (get_or (roots_of (length sought) es) j 0) 0) 0 i hi

-- a root that is sought is that of its place
pub sought_root :
    (sought : List Bool) (es : List (ℕ × ℕ)) (i : ℕ) → i < places → get_or sought i false ≡ true →
    get_or (roots_in sought es) i 0 ≡ get_or (roots_of (length sought) es) i 0
sought_root sought es i hi b = sought_at sought es i hi ∙ ap (λ (t : Bool). cond t (get_or (roots_of (length sought) es) i 0) 0) b

-- and all of them are places
pub sought_low : (sought : List Bool) → length sought ≤ places → (es : List (ℕ × ℕ)) (i : ℕ) → i < places → get_or (roots_in sought es) i 0 < places
sought_low sought h es i hi = subst (λ (r : ℕ). r < places) (sym (sought_at sought es i hi)) (go (get_or sought i false))
  where
    go : (b : Bool) → cond b (get_or (roots_of (length sought) es) i 0) 0 < places
    go true = (roots_tell (length sought) h es).low i hi
    go false = omega arith
