-- What linking and a union do to a sound forest: two classes become one, and the others stay. Assumes nothing.
use Rattle.std.specs.Prelude.{ℕ, zero, suc, ◌+◌, ◌*◌, ◌^◌, ◌<◌, ◌≤◌, ◌≡◌, refl, ◌≢◌, ◌⊎◌, List, [], ◌∷◌, ◌++◌, length, get_or, set}
use Rattle.std.proofs.Common.{sym, ◌∙◌, ap, ap₂, subst, inl, inr, ⊎_elim, arith, add-one, lit≤, length-set, length-append, get_or-set_same, get_or-set_other, pow-add}
use Rattle.std.proofs.Math.Logic.{by_cases, Ne-symm}
use Rattle.std.proofs.Math.Decide.{ℕ_discrete, dec_lt}
use Rattle.std.proofs.lemmas.List.{length-replicate, get_or-replicate, get_or_at}
use Rattle.std.proofs.Math.ListN.{get_or-append}
use borrow.Author.Tests.{eq-eqb, ne_eqb, lt-ltb, le-ltb}
use Rattle.union_find.specs.declared.forest.UnionFind.{UnionFind}
use Rattle.union_find.specs.Laws.Merging.{Merged}
use Rattle.union_find.specs.Forest.{places, up, table, new_of, find_of, link_of, union_of}
use Rattle.union_find.specs.Laws.WellFormed.{root_of, top, root_is, root_eq, root_low, root_top, link_well, link_merges}
use Rattle.union_find.specs.Inside.WellFormed.{WellFormed, Sound}
use Rattle.union_find.specs.Laws.Find.{Finds, find_law}

-- the four ways of a link
module _ (u : UnionFind) (x y : ℕ) where
  -- the ranks of the two
  abbrev rank_x : ℕ
  rank_x = get_or u.rank x 0

  abbrev rank_y : ℕ
  rank_y = get_or u.rank y 0

  -- one root: nothing changes
  pub link_same : x ≡ y → link_of u x y ≡ u
  unfolding link_of
  link_same e = simp (eq-eqb x y e)

  -- x goes under y
  pub link_less : x ≢ y → get_or u.rank x 0 < get_or u.rank y 0 → link_of u x y ≡ record { parent = set u.parent x y; rank = u.rank }
  unfolding link_of
  link_less n h = simp (ne_eqb x y n, lt-ltb rank_x rank_y h)

  -- y goes under x
  pub link_more : x ≢ y → get_or u.rank y 0 < get_or u.rank x 0 → link_of u x y ≡ record { parent = set u.parent y x; rank = u.rank }
  unfolding link_of
  link_more n h = simp (ne_eqb x y n, le-ltb rank_x rank_y (omega arith), lt-ltb rank_y rank_x h)

  -- y goes under x, whose rank grows
  pub link_equal :
      x ≢ y → get_or u.rank x 0 ≡ get_or u.rank y 0 →
      link_of u x y ≡ record { parent = set u.parent y x; rank = set u.rank x (get_or u.rank x 0 + 1) }
  unfolding link_of
  link_equal n h = simp (ne_eqb x y n, le-ltb rank_x rank_y (omega arith), le-ltb rank_y rank_x (omega arith))

-- v is u with the classes of a and b made one
pub record Joins (u : UnionFind) (a b : ℕ) (v : UnionFind) : Type 0 where
  pub sound : Sound v
  pub merges : Merged places (root_of u.parent) (root_of v.parent) a b

module _ (u : UnionFind) (wf : Sound u) (x y a b : ℕ) (ha : a < places) (hb : b < places) (ea : root_of u.parent a ≡ x) (eb : root_of u.parent b ≡ y) where
  abbrev p : List ℕ
  p = u.parent

  abbrev r : List ℕ
  r = u.rank

  hx : x < places
  hx = subst (λ (k : ℕ). k < places) ea (root_low p r wf ha (root_is p r wf a ha))

  hy : y < places
  hy = subst (λ (k : ℕ). k < places) eb (root_low p r wf hb (root_is p r wf b hb))

  tx : up p x ≡ x
  tx = subst (λ (k : ℕ). up p k ≡ k) ea (root_top (root_is p r wf a ha))

  ty : up p y ≡ y
  ty = subst (λ (k : ℕ). up p k ≡ k) eb (root_top (root_is p r wf b hb))

  at_same : x ≡ y → Joins u a b u
  at_same e = record { sound = wf; merges = record { kept = λ i j hi hj q. q; met = ea ∙ e ∙ sym eb; only = λ i j hi hj q. inl q } }

  at_less : x ≢ y → get_or r x 0 < get_or r y 0 → Joins u a b (record { parent = set p x y; rank = r })
  at_less n h = record { sound = w; merges = link_merges p r wf x y hx hy tx ty n r w a b ha hb (inl (ea, eb)) }
    where
      w : WellFormed (set p x y) r
      w = link_well p r wf x y hx hy tx ty n r (λ i iy. refl) wf.rlen h (omega arith) (omega arith)

  at_more : x ≢ y → get_or r y 0 < get_or r x 0 → Joins u a b (record { parent = set p y x; rank = r })
  at_more n h = record { sound = w; merges = link_merges p r wf y x hy hx ty tx (Ne-symm n) r w a b ha hb (inr (ea, eb)) }
    where
      w : WellFormed (set p y x) r
      w = link_well p r wf y x hy hx ty tx (Ne-symm n) r (λ i iy. refl) wf.rlen h (omega arith) (omega arith)

  at_equal : x ≢ y → get_or r x 0 ≡ get_or r y 0 → Joins u a b (record { parent = set p y x; rank = set r x (get_or r x 0 + 1) })
  at_equal n h = record { sound = w; merges = link_merges p r wf y x hy hx ty tx (Ne-symm n) r' w a b ha hb (inr (ea, eb)) }
    where
      r' : List ℕ
      r' = set r x (get_or r x 0 + 1)

      now_x : get_or r' x 0 ≡ get_or r x 0 + 1
      now_x = get_or-set_same r x (get_or r x 0 + 1) 0 (let e : length r ≡ places = wf.rlen in omega (arith, hx))

      light : 2 ^ get_or r' x 0 ≤ 2 ^ get_or r y 0 + 2 ^ get_or r x 0
      light =
          let q : 2 ^ get_or r' x 0 ≡ 2 ^ (get_or r x 0 + 1) = ap (λ (k : ℕ). 2 ^ k) now_x in
          let q' : 2 ^ (get_or r x 0 + 1) ≡ 2 ^ get_or r x 0 * 2 ^ 1 = pow-add 2 (get_or r x 0) 1 in
          let q'' : 2 ^ get_or r x 0 ≡ 2 ^ get_or r y 0 = ap (λ (k : ℕ). 2 ^ k) h in
          omega arith

      w : WellFormed (set p y x) r'
      w =
          link_well p r wf y x hy hx ty tx (Ne-symm n) r' (λ i ix. get_or-set_other r x i (get_or r x 0 + 1) 0 ix) (length-set r x (get_or r x 0 + 1) ∙ wf.rlen)
          (omega (arith, now_x)) (omega (arith, now_x)) light

  -- a link of the roots of a and b
  pub link_law : Joins u a b (link_of u x y)
  link_law =
      by_cases (ℕ_discrete x y) (λ e. subst (Joins u a b) (sym (link_same u x y e)) (at_same e))
      (λ n.
      by_cases (dec_lt (get_or r x 0) (get_or r y 0)) (λ h. subst (Joins u a b) (sym (link_less u x y n h)) (at_less n h))
      (λ h.
      by_cases (dec_lt (get_or r y 0) (get_or r x 0)) (λ g. subst (Joins u a b) (sym (link_more u x y n g)) (at_more n g))
      (λ g. let e : get_or r x 0 ≡ get_or r y 0 = omega arith in subst (Joins u a b) (sym (link_equal u x y n e)) (at_equal n e))))

-- a union keeps the forest sound, and merges the classes of a and b and no others
pub union_law : (u : UnionFind) → Sound u → (a b : ℕ) → a < places → b < places → Joins u a b (union_of u a b)
unfolding union_of
union_law u wf a b ha hb = record { sound = j.sound; merges = record { kept = kept'; met = j.merges.met; only = only' } }
  where
    fa : Finds u.parent u.rank a (find_of u.parent a)
    fa = find_law u.parent u.rank wf a ha

    p₁ : List ℕ
    p₁ = (find_of u.parent a).parent

    fb : Finds p₁ u.rank b (find_of p₁ b)
    fb = find_law p₁ u.rank fa.well b hb

    p₂ : List ℕ
    p₂ = (find_of p₁ b).parent

    f : ℕ → ℕ
    f = root_of u.parent

    g : ℕ → ℕ
    g = root_of (union_of u a b).parent

    same : (i : ℕ) → i < places → root_of p₂ i ≡ f i
    same i hi = fb.same i hi ∙ fa.same i hi

    x : ℕ
    x = (find_of u.parent a).root

    y : ℕ
    y = (find_of p₁ b).root

    w : UnionFind
    w = record { parent = p₂; rank = u.rank }

    j : Joins w a b (link_of w x y)
    j = link_law w fb.well x y a b ha hb (same a ha ∙ sym fa.is_root) (fb.same b hb ∙ sym fb.is_root)

    kept' : (i k : ℕ) → i < places → k < places → f i ≡ f k → g i ≡ g k
    kept' i k hi hk e = j.merges.kept i k hi hk (same i hi ∙ e ∙ sym (same k hk))

    only' : (i k : ℕ) → i < places → k < places → g i ≡ g k → (f i ≡ f k) ⊎ (((f i ≡ f a) × (f b ≡ f k)) ⊎ ((f i ≡ f b) × (f a ≡ f k)))
    only' i k hi hk e =
        ⊎_elim (λ s. inl (sym (same i hi) ∙ s ∙ same k hk))
        (λ t. inr (⊎_elim (λ s. inl (sym (same i hi) ∙ s.0 ∙ same a ha, sym (same b hb) ∙ s.1 ∙ same k hk))
        (λ s. inr (sym (same i hi) ∙ s.0 ∙ same b hb, sym (same a ha) ∙ s.1 ∙ same k hk)) t))
        (j.merges.only i k hi hk e)

-- a table has n values, and f's at each place
pub table_length : {A : Type 0} (n : ℕ) (f : ℕ → A) → length (table n f) ≡ n
table_length zero f = refl
table_length (suc n) f = length-append (table n f) (f n ∷ []) ∙ ap₂ ◌+◌ (table_length n f) refl ∙ add-one n

-- a table's value at i
pub table_at : {A : Type 0} (n : ℕ) (f : ℕ → A) (d : A) (i : ℕ) → i < n → get_or (table n f) i d ≡ f i
table_at zero f d i h = absurd (omega arith)
table_at (suc n) f d i h =
    by_cases (ℕ_discrete i n) (λ e. subst (λ (k : ℕ). get_or (table n f ++ (f n ∷ [])) k d ≡ f k) (sym e) (get_or_at (table n f) (f n) [] d n (table_length n f)))
    (λ e. get_or-append (table n f) (f n ∷ []) d i (let l : length (table n f) ≡ n = table_length n f in omega arith) ∙ table_at n f d i (omega arith))

-- the fresh forest is sound, and each place its own root
pub new_law : Sound new_of
unfolding new_of
new_law =
    record {
      plen = table_length places (λ i. i);
      rlen = length-replicate {A = ℕ} places 0;
      low = λ i hi. subst (λ (k : ℕ). k < places) (sym (table_at places (λ i. i) 0 i hi)) hi;
      rise = λ i hi n. absurd (n (table_at places (λ i. i) 0 i hi));
      cap = λ i hi. subst (λ (k : ℕ). k ≤ 6) (sym (get_or-replicate places i 0 0 hi)) (omega arith);
      weight = lit≤ tt;
    }

-- each place of the fresh forest is its own root
pub new_root : (i : ℕ) → i < places → root_of new_of.parent i ≡ i
unfolding new_of
new_root i hi = root_eq new_of.parent new_of.rank new_law hi (top (table_at places (λ i. i) 0 i hi))
