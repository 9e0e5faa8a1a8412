-- The labels of a clustered DenStream, told by chains of centres and by the weights of groups.
use Prim.Native.Nat.{ℕ, ◌<◌, ◌≤◌}
use mathlib.Core.Path.{◌≡◌, refl, sym, ap, ◌∙◌, subst}
use mathlib.Core.Bool.{Bool, true, false}
use mathlib.Core.List.{List}
use mathlib.Core.Logic.{◌↔◌, ◌⊎◌, inl, inr, ⊎_elim}
use native.Mathlib.Omega.{arith}
use lib.IntN.{ℤ}
use lib.Ieee.{Float, le, nan}
use lib.ListN.{length, take, get_or, length-map}
use lib.Seq.{length-take-le, get_or-take}
use Rattle.float.specs.Rounded.{nought}
use Rattle.union_find.specs.Pairs.{Chain, Joined}
use Rattle.union_find.specs.Laws.Chain.{chain_more}
use Rattle.union_find.specs.Forest.{roots_of}
use Rattle.union_find.specs.Laws.Union.{table_at}
use Rattle.union_find.proofs.Laws.Root.{RootsTell, roots_tell}
use Rattle.labels.specs.Group.{Summed, done, taken, passed, sum_from, sums_of}
use Rattle.labels.specs.Laws.Group.{sums_tell}
use Rattle.labels.specs.Label as label
use Rattle.labels.proofs.Laws.Label as laws
use Rattle.labels.proofs.Laws.Label.{LabelsTell}
use Rattle.model.specs.Limits.{micros_most}
use Rattle.model.specs.Families.{labels_by, counted_by}
use Rattle.model.specs.DenState.{State}
use Rattle.model.specs.declared.micro.DenMicro.{DenMicro}
use Rattle.model.specs.Body.{faded_weight}
use Rattle.model.specs.DenCluster.{joins_of, faded_weights, labels_of}
use Rattle.model.specs.Denstream.{cluster_of}
use Rattle.claims.specs.DenClaims.{OneGroup, Weighs, LabelsTellGroups}
use Rattle.claims.proofs.Places.{at_there, at_get_d, there_test}
use Rattle.claims.proofs.Counts.{Counted, labels_counted}
use Rattle.claims.proofs.DenPairs.{listed_step, step_listed}

summed_more : {P Q : ℕ → Type 0} → ((k : ℕ) → P k ↔ Q k) → {i : ℕ} {sum v : Float} {ws : List Float} → Summed P i sum ws v → Summed Q i sum ws v
summed_more f done = done
summed_more f (taken {i = i} p s) = taken ((f i).0 p) (summed_more f s)
summed_more f (passed {i = i} p s) = passed (λ q. p ((f i).1 q)) (summed_more f s)

-- a stream whose labels are those of its potential ones
module _ (s : State) (labelled : s.labels ≡ labels_of s) (few : length s.held.potential ≤ micros_most) where
  abbrev ws : List Float
  ws = faded_weights s

  abbrev n : ℕ
  n = length ws

  n_is : n ≡ length s.held.potential
  n_is = length-map s.held.potential (λ (m : DenMicro). faded_weight s.params.settings.lambda s.t m.body)

  low : n ≤ micros_most
  low = omega (arith, n_is, few)

  abbrev roots : List ℕ
  roots = roots_of n (joins_of s)

  tells : RootsTell n (joins_of s) roots
  tells = roots_tell n low (joins_of s)

  -- ---- a chain of joined pairs is a chain of close centres
  chains : (i j : ℕ) → Chain (Joined n (joins_of s)) i j ↔ OneGroup s i j
  chains i j = (
    (λ c. chain_more (λ a b p. listed_step s a b p.2) c),
    (λ c. chain_more (λ a b t. (omega (arith, n_is, t.first, t.held), omega (arith, n_is, t.held), step_listed s a b t)) c),
  )

  -- ---- the weight of a group is the sum at its root
  sum_at : ℕ → Float
  sum_at i = sum_from nought (get_or roots i 0) roots ws

  sum_at_lem : (i : ℕ) → i < n → get_or (sums_of roots ws) (get_or roots i 0) nan ≡ sum_at i
  unfolding sums_of sum_at
  sum_at_lem i h = table_at micros_most (λ v. sum_from nought v roots ws) nan (get_or roots i 0) (tells.low i (omega (arith, low)))

  weighs : (i : ℕ) → i < n → (v : Float) → Weighs s i v ↔ (v ≡ sum_at i)
  weighs i h v =
      let t = sums_tell n low (joins_of s) ws refl i h v in (
        (λ w. t.0 (summed_more (λ k. ((chains k i).1, (chains k i).0)) w) ∙ sum_at_lem i h),
        (λ e. summed_more (λ k. chains k i) (t.1 (e ∙ sym (sum_at_lem i h)))),
      )

  -- ---- which places count
  abbrev mask : List Bool
  mask = counted_by s.params.settings.mu ws (joins_of s)

  mask_length : length mask ≡ n
  unfolding counted_by
  mask_length = length-map (take n roots) _ ∙ length-take-le n roots (omega (arith, low, tells.count))

  counted : ℕ → Bool
  counted v = le s.params.settings.mu (sum_from nought v roots ws)

  mask_at : (i : ℕ) → i < n → get_or mask i false ≡ le s.params.settings.mu (sum_at i)
  unfolding counted_by sum_at counted
  mask_at i h =
      let l : length (take n roots) ≡ n = length-take-le n roots (omega (arith, low, tells.count)) in
      let a = at_there (take n roots) i (omega arith) in
      there_test counted (take n roots) i a.0 a.1 ∙ ap counted (sym (at_get_d (take n roots) i a.0 0 a.1) ∙ get_or-take n roots i 0 h)

  counts : (i : ℕ) (v : Float) → i < n → Weighs s i v → get_or mask i false ≡ le s.params.settings.mu v
  counts i v h w = mask_at i h ∙ ap (le s.params.settings.mu) (sym ((weighs i h v).0 w))

  labels_are : s.labels ≡ label.labels_of mask roots
  unfolding labels_of labels_by
  labels_are = labelled ∙ ap (λ (m : ℕ). label.labels_of mask (roots_of m (joins_of s))) mask_length

  tell : LabelsTell n (joins_of s) mask s.labels
  tell = subst (LabelsTell n (joins_of s) mask) (sym labels_are) (laws.labels_tell n low (joins_of s) mask mask_length)

  -- places of one group count alike
  alike : (i j : ℕ) → i < n → j < n → OneGroup s i j → get_or mask i false ≡ get_or mask j false
  unfolding sum_at
  alike i j h k c =
      let one_root = (tells.equal i j (omega (arith, low)) (omega (arith, low))).1 ((chains i j).1 c) in
      mask_at i h ∙ ap (λ (v : ℕ). le s.params.settings.mu (sum_from nought v roots ws)) one_root ∙ sym (mask_at j k)

  -- the claim, of a stream labelled so
  pub labels_tell : LabelsTellGroups s
  labels_tell =
      record {
        count = tell.count ∙ n_is;
        weighed = λ i h. (sum_at i, (weighs i (inside i h) (sum_at i)).1 refl);
        light = λ i v h w.
            let o = tell.outside i (inside i h) in
            let c = counts i v (inside i h) w in
            ((λ e. sym c ∙ o.0 e), (λ e. o.1 (c ∙ e)));
        groups = λ i j v u h k w x.
            let q = tell.equal i j (inside i h) (inside j k) in
            let c = counts i v (inside i h) w in
            let d = counts j u (inside j k) x in (
              (λ e. ⊎_elim (λ y. inl (sym c ∙ y.0, sym d ∙ y.1)) (λ y. inr ((chains i j).0 y.2)) (q.0 e)),
              (λ e. q.1
                  (⊎_elim (λ y. inl (c ∙ y.0, d ∙ y.1))
                  (λ g. both i j (get_or mask i false) refl (alike i j (inside i h) (inside j k) g) ((chains i j).1 g)) e)),
            );
        counts = λ i h. subst (λ (l : List ℤ). Counted (laws.label_at l i)) (sym labels_are) (labels_counted mask roots i);
        from_zero = λ i c m h e l. tell.from_zero i c m (inside i h) e l;
      }
    where
      inside : (i : ℕ) → i < length s.held.potential → i < n
      inside i h = omega (arith, n_is)

      both :
          (i j : ℕ) (t : Bool) →
          get_or mask i false ≡ t →
          get_or mask i false ≡ get_or mask j false →
          Chain (Joined n (joins_of s)) i j →
          (laws.Outside mask i × laws.Outside mask j) ⊎ (laws.Inside mask i × laws.Inside mask j × Chain (Joined n (joins_of s)) i j)
      both i j true e h c = inr (e, sym h ∙ e, c)
      both i j false e h c = inl (e, sym h ∙ e)

-- and so of a clustered one
pub groups_told : (s : State) → length s.held.potential ≤ micros_most → LabelsTellGroups (cluster_of s)
unfolding labels_of
groups_told s few = labels_tell (cluster_of s) refl few
