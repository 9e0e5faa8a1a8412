-- The labels of a clustered DBSTREAM tell its families, wherever creation numbers ascend.
use Prim.Native.Nat.{ℕ, zero, suc, ◌<◌, ◌≤◌}
use mathlib.Core.Path.{◌≡◌, refl, sym, ap, ◌∙◌, subst}
use mathlib.Core.Logic.{◌↔◌, inl, inr, ⊎_elim}
use mathlib.Core.Bool.{Bool, true, false, ◌&&◌, cond, true≢false}
use mathlib.Core.List.{List, [], ◌∷◌, map}
use native.Mathlib.Omega.{arith}
use lib.IntN.{ℤ, pos, negsuc}
use lib.ListN.{length, get_or, length-map}
use Rattle.union_find.specs.Pairs.{Chain, Listed, Joined}
use Rattle.union_find.specs.Laws.Chain.{chain_map, chain_more}
use Rattle.union_find.specs.Forest.{roots_of}
use Rattle.labels.proofs.Laws.Label as label
use Rattle.labels.proofs.Laws.Label.{LabelsTell}
use Rattle.model.specs.declared.micro.MicroId.{MicroId}
use Rattle.model.specs.declared.micro.DbMicro.{DbMicro}
use Rattle.model.specs.declared.link.Link.{Link}
use Rattle.model.specs.Limits.{micros_most}
use Rattle.model.specs.Families.{labels_by}
use Rattle.model.specs.DbState.{State}
use Rattle.model.specs.DbCluster.{place_of, is_strong, strong_ones, strong_at, is_dense, ends_of, joins, joins_of, labels_of}
use Rattle.model.specs.Dbstream.{cluster_of}
use Rattle.claims.specs.Lists.{At, In, Ascending}
use Rattle.claims.specs.DbClaims.{Older, StrongNumber, Step, LabelsTellFamilies}
use Rattle.claims.proofs.Order.{and_true}
use Rattle.claims.proofs.Places.{not_none, at_one, at_below, at_there, at_in, in_at, at_get_d, test_there, there_test}
use Rattle.claims.proofs.Counts.{Counted, labels_counted}
use Rattle.claims.proofs.DbPlaces.{place_at, own_place}

true_and : (a b c : Bool) → a ≡ true → b ≡ true → c ≡ true → (a && b && c) ≡ true
true_and true true true p q r = refl
true_and true true false p q r = r
true_and true false c p q r = q
true_and false b c p q r = p

abbrev numbered : ℕ → MicroId
numbered a = record { 0 = a }

module _ (s : State) where
  -- ---- the pairs that are joined, and the links that join them
  record JoinedBy (ls : List Link) (i j : ℕ) : Type 0 where
    link : Link
    held : In link ls
    does : joins s link ≡ true
    lo : i ≡ place_of s.held.micros link.lo
    hi : j ≡ place_of s.held.micros link.hi

  joined_by : (ls : List Link) (i j : ℕ) → Listed (joins_of s ls) i j → JoinedBy ls i j
  unfolding joins_of
  joined_by [] i j h = absurd h
  joined_by (l ∷ ls) i j h = go (joins s l) refl h (joined_by ls i j)
    where
      later : JoinedBy ls i j → JoinedBy (l ∷ ls) i j
      later k = record { link = k.link; held = inr k.held; does = k.does; lo = k.lo; hi = k.hi }

      go :
          (b : Bool) →
          joins s l ≡ b →
          Listed (cond b (ends_of s l ∷ joins_of s ls) (joins_of s ls)) i j →
          (Listed (joins_of s ls) i j → JoinedBy ls i j) →
          JoinedBy (l ∷ ls) i j
      go true e k ih = ⊎_elim (λ q. record { link = l; held = inl refl; does = e; lo = q.0; hi = q.1 }) (λ q. later (ih q)) k
      go false e k ih = later (ih k)

  by_joined :
      (ls : List Link) (l : Link) →
      In l ls →
      joins s l ≡ true →
      Listed (joins_of s ls) (place_of s.held.micros l.lo) (place_of s.held.micros l.hi)
  unfolding joins_of
  by_joined [] l h e = absurd h
  by_joined (k ∷ ls) l h e = go (joins s k) refl (by_joined ls l)
    where
      Goal : List (ℕ × ℕ) → Type 0
      Goal es = Listed es (place_of s.held.micros l.lo) (place_of s.held.micros l.hi)

      same : l ≡ k → joins s k ≡ true
      same q = ap (joins s) (sym q) ∙ e

      go : (b : Bool) → joins s k ≡ b → (In l ls → joins s l ≡ true → Goal (joins_of s ls)) → Goal (cond b (ends_of s k ∷ joins_of s ls) (joins_of s ls))
      go true r ih =
          ⊎_elim (λ q. inl (ap (λ (u : Link). place_of s.held.micros u.lo) q, ap (λ (u : Link). place_of s.held.micros u.hi) q))
          (λ q. inr (ih q e)) h
      go false r ih = ⊎_elim (λ q. absurd (true≢false (sym (same q) ∙ r))) (λ q. ih q e) h

  pairs : List (ℕ × ℕ)
  pairs = joins_of s s.held.links

  abbrev Pair : ℕ → ℕ → Type 0
  Pair = Joined (length (strong_ones s)) pairs

  -- a strong one is held
  pub strong_below : (i : ℕ) → strong_at s i ≡ true → i < length (strong_ones s)
  strong_below i e =
      let m = test_there (is_strong s) s.held.micros i e in
      omega (arith, at_below s.held.micros i m.0 m.1, length-map s.held.micros (is_strong s))

  -- ---- a joined pair is a step between the numbers that stand there
  abbrev numbers : List DbMicro → List ℕ
  numbers ms = map (λ (m : DbMicro). m.id.0) ms

  id_at : ℕ → ℕ
  id_at i = get_or (numbers s.held.micros) i 0

  id_at_lem : (ms : List DbMicro) (i : ℕ) (m : DbMicro) → At ms i m → get_or (numbers ms) i 0 ≡ m.id.0
  id_at_lem [] i m h = absurd (not_none h)
  id_at_lem (n ∷ ms) zero m h = ap (λ (u : DbMicro). u.id.0) (at_one (n ∷ ms) 0 n m refl h)
  id_at_lem (n ∷ ms) (suc i) m h = id_at_lem ms i m h

  strong_number : (a : MicroId) → strong_at s (place_of s.held.micros a) ≡ true → StrongNumber s a.0
  strong_number a e =
      let m = test_there (is_strong s) s.held.micros (place_of s.held.micros a) e in
      record {
        micro = m.0;
        held = at_in s.held.micros (place_of s.held.micros a) m.0 m.1;
        number =
            place_at s.held.micros a m.0 m.1;
        strong = m.2;
      }

  place_id : (a : MicroId) → strong_at s (place_of s.held.micros a) ≡ true → id_at (place_of s.held.micros a) ≡ a.0
  unfolding id_at
  place_id a e =
      let m = test_there (is_strong s) s.held.micros (place_of s.held.micros a) e in
      id_at_lem s.held.micros (place_of s.held.micros a) m.0 m.1 ∙ place_at s.held.micros a m.0 m.1

  step_out : (i j : ℕ) → Pair i j → Step s (id_at i) (id_at j)
  unfolding pairs
  step_out i j h =
      let k : JoinedBy s.held.links i j = joined_by s.held.links i j h.2 in
      let b = and_true (strong_at s (place_of s.held.micros k.link.lo)) (strong_at s (place_of s.held.micros k.link.hi)) (is_dense s k.link)
      k.does in
      let lo : id_at i ≡ k.link.lo.0 = ap id_at k.lo ∙ place_id k.link.lo b.0 in
      let hi : id_at j ≡ k.link.hi.0 = ap id_at k.hi ∙ place_id k.link.hi b.1 in
      record {
        link = k.link;
        held = k.held;
        lo = sym lo;
        hi = sym hi;
        dense = b.2;
        from = subst (StrongNumber s) (sym lo) (strong_number k.link.lo b.0);
        to = subst (StrongNumber s) (sym hi) (strong_number k.link.hi b.1);
      }

  module _ (asc : Ascending Older s.held.micros) where
    -- ---- and a step is a joined pair of the places of its numbers
    abbrev place : ℕ → ℕ
    place a = place_of s.held.micros (numbered a)

    strong_place : (a : ℕ) → StrongNumber s a → strong_at s (place a) ≡ true
    strong_place a n =
        let w = in_at s.held.micros n.micro n.held in
        let e : place a ≡ w.0 = ap place (sym n.number) ∙ own_place s.held.micros asc w.0 n.micro w.1 in
        ap (strong_at s) e ∙ there_test (is_strong s) s.held.micros w.0 n.micro w.1 ∙ n.strong

    step_in : (a b : ℕ) → Step s a b → Pair (place a) (place b)
    unfolding pairs
    step_in a b t =
        let lo : strong_at s (place_of s.held.micros t.link.lo) ≡ true = ap (λ (c : ℕ). strong_at s (place c)) t.lo ∙ strong_place a t.from in
        let hi : strong_at s (place_of s.held.micros t.link.hi) ≡ true = ap (λ (c : ℕ). strong_at s (place c)) t.hi ∙ strong_place b t.to in
        let j : Listed (joins_of s s.held.links) (place_of s.held.micros t.link.lo) (place_of s.held.micros t.link.hi) =
        by_joined s.held.links t.link t.held
        (true_and (strong_at s (place_of s.held.micros t.link.lo)) (strong_at s (place_of s.held.micros t.link.hi)) (is_dense s t.link) lo hi
        t.dense) in (
          strong_below (place a) (strong_place a t.from),
          strong_below (place b) (strong_place b t.to),
          subst (λ (c : ℕ). Listed (joins_of s s.held.links) (place c) (place b)) t.lo
              (subst (λ (c : ℕ). Listed (joins_of s s.held.links) (place t.link.lo.0) (place c)) t.hi j),
        )

    -- a chain of places is a chain of creation numbers
    chains : (i j : ℕ) (m n : DbMicro) → At s.held.micros i m → At s.held.micros j n → Chain Pair i j ↔ Chain (Step s) m.id.0 n.id.0
    unfolding id_at
    chains i j m n h k = (
      (λ c. subst (λ (a : ℕ). Chain (Step s) m.id.0 a) (id_at_lem s.held.micros j n k)
          (subst (λ (a : ℕ). Chain (Step s) a (id_at j)) (id_at_lem s.held.micros i m h) (chain_map id_at step_out c))),
      (λ c. subst (λ (a : ℕ). Chain Pair i a) (own_place s.held.micros asc j n k)
          (subst (λ (a : ℕ). Chain Pair a (place n.id.0)) (own_place s.held.micros asc i m h) (chain_map place step_in c))),
    )

    -- cluster changes labels alone, so a step before it is a step after it
    clustered : (a b : ℕ) → Step s a b → Step (cluster_of s) a b
    clustered a b t = record { link = t.link; held = t.held; lo = t.lo; hi = t.hi; dense = t.dense; from = strong t.from; to = strong t.to }
      where
        strong : {a : ℕ} → StrongNumber s a → StrongNumber (cluster_of s) a
        strong n = record { micro = n.micro; held = n.held; number = n.number; strong = n.strong }

    unclustered : (a b : ℕ) → Step (cluster_of s) a b → Step s a b
    unclustered a b t = record { link = t.link; held = t.held; lo = t.lo; hi = t.hi; dense = t.dense; from = strong t.from; to = strong t.to }
      where
        strong : {a : ℕ} → StrongNumber (cluster_of s) a → StrongNumber s a
        strong n = record { micro = n.micro; held = n.held; number = n.number; strong = n.strong }

    module _ (few : length s.held.micros ≤ micros_most) where
      tell : LabelsTell (length (strong_ones s)) pairs (strong_ones s) (labels_of s)
      unfolding labels_of labels_by pairs
      tell =
          label.labels_tell (length (strong_ones s)) (omega (arith, few, length-map s.held.micros (is_strong s))) (joins_of s s.held.links)
          (strong_ones s) refl

      below : (i : ℕ) (m : DbMicro) → At s.held.micros i m → i < length (strong_ones s)
      below i m h = omega (arith, at_below s.held.micros i m h, length-map s.held.micros (is_strong s))

      strong_is : (i : ℕ) (m : DbMicro) → At s.held.micros i m → strong_at s i ≡ is_strong s m
      strong_is i m h = there_test (is_strong s) s.held.micros i m h

      label_is : (i : ℕ) (k : ℤ) → At (labels_of s) i k → label.label_at (labels_of s) i ≡ k
      label_is i k h = at_get_d (labels_of s) i k (negsuc 0) h

      counted : (i : ℕ) → Counted (label.label_at (labels_of s) i)
      unfolding labels_of labels_by
      counted i = labels_counted (strong_ones s) (roots_of (length (strong_ones s)) (joins_of s s.held.links)) i

      stands : (i : ℕ) (k : ℤ) → i < length (labels_of s) → label.label_at (labels_of s) i ≡ k → At (labels_of s) i k
      stands i k h e =
          let a = at_there (labels_of s) i h in
          subst (λ (v : ℤ). At (labels_of s) i v) (sym (at_get_d (labels_of s) i a.0 (negsuc 0) a.1) ∙ e) a.1

      -- the claim: labels tell families
      pub labels_tell : LabelsTellFamilies (cluster_of s)
      labels_tell =
          record {
            count = tell.count ∙ length-map s.held.micros (is_strong s);
            weak = λ i m k h g. (
              (λ e. sym (strong_is i m h) ∙ (tell.outside i (below i m h)).0 (label_is i k g ∙ e)),
              (λ e. sym (label_is i k g) ∙ (tell.outside i (below i m h)).1 (strong_is i m h ∙ e)),
            );
            families = λ i j m n k l h g p q. (
              (λ e. ⊎_elim (λ w. inl (sym (strong_is i m h) ∙ w.0, sym (strong_is j n g) ∙ w.1))
                  (λ w. inr (sym (strong_is i m h) ∙ w.0, sym (strong_is j n g) ∙ w.1, chain_more clustered ((chains i j m n h g).0 w.2)))
                  ((tell.equal i j (below i m h) (below j n g)).0 (label_is i k p ∙ e ∙ sym (label_is j l q)))),
              (λ f. sym (label_is i k p) ∙ (tell.equal i j (below i m h) (below j n g)).1
                  (⊎_elim (λ w. inl (strong_is i m h ∙ w.0, strong_is j n g ∙ w.1))
                  (λ w. inr (strong_is i m h ∙ w.0, strong_is j n g ∙ w.1, (chains i j m n h g).1 (chain_more unclustered w.2))) f) ∙ label_is j l q),
            );
            counts = λ i k g. ⊎_elim (λ e. inl (sym (label_is i k g) ∙ e)) (λ w. inr (w.0, sym (label_is i k g) ∙ w.1)) (counted i);
            from_zero = λ i c m g h.
                let l : i < length (labels_of s) = at_below (labels_of s) i (pos c) g in
                let w = tell.from_zero i c m (omega (arith, tell.count)) (label_is i (pos c) g) h in
                let b : w.0 < i = w.1 in
                (w.0, w.1, stands w.0 (pos m) (omega arith) w.2);
          }
