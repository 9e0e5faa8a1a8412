-- Equal labels other than −1 stay so where min_weight and alpha × min_weight are no larger.
use Prim.Native.Nat.{ℕ, ◌<◌, ◌≤◌}
use mathlib.Core.Path.{◌≡◌, refl, sym, ◌∙◌, subst}
use mathlib.Core.Logic.{inr, ⊎_elim}
use mathlib.Core.Bool.{true, true≢false}
use mathlib.Core.List.{List}
use lib.Dec.{T}
use lib.IntN.{ℤ}
use lib.ListN.{length}
use lib.Ieee.{Float, le}
use lib.Ieee.Bits.{is_true}
use Rattle.float.specs.Rounded.{◌⊗◌}
use Rattle.float.specs.Laws.Ordered.{le_trans_all}
use Rattle.union_find.specs.Laws.Chain.{chain_more}
use Rattle.model.specs.declared.micro.DbMicro.{DbMicro}
use Rattle.model.specs.Limits.{micros_most}
use Rattle.model.specs.DbState.{Settings, Params, State, params_of}
use Rattle.model.specs.Body.{faded_weight}
use Rattle.model.specs.DbInsert.{faded_link}
use Rattle.model.specs.Dbstream.{dbstream, has_place, cluster_of}
use Rattle.claims.specs.Lists.{At, Ascending}
use Rattle.claims.specs.DbClaims.{Older, Strong, StrongNumber, Step, OneFamily, LabelsTellFamilies, Laxer, StayTogether, after}
use Rattle.claims.proofs.Places.{at_below, at_there}
use Rattle.claims.proofs.Runs.{run_params}
use Rattle.claims.proofs.DbFresh.{from_fresh}
use Rattle.claims.proofs.DbRoom.{micros_within}
use Rattle.claims.proofs.DbLabels.{labels_tell}
use Rattle.claims.proofs.DbTwins.{twin, twins}

-- what reaches a bound reaches one that is no larger
reaches : (low high v : Float) → T (le low high) → le high v ≡ true → le low v ≡ true
reaches low high v h e = is_true (le low v) (le_trans_all low high v h (subst T (sym e) tt))

module _ (alpha min_weight : Float) (labels : List ℤ) (s : State)
    (lighter : T (le min_weight s.params.settings.min_weight))
    (looser : T (le (alpha ⊗ min_weight) (s.params.settings.alpha ⊗ s.params.settings.min_weight)))
    (asc : Ascending Older s.held.micros) (few : length s.held.micros ≤ micros_most) where
  abbrev u : State
  u = cluster_of (twin alpha min_weight labels s)

  strong_stays : (m : DbMicro) → Strong s m → Strong u m
  strong_stays m e = reaches min_weight s.params.settings.min_weight (faded_weight s.params.settings.lambda s.t m.body) lighter e

  number_stays : (a : ℕ) → StrongNumber (cluster_of s) a → StrongNumber u a
  number_stays a n = record { micro = n.micro; held = n.held; number = n.number; strong = strong_stays n.micro n.strong }

  step_stays : (a b : ℕ) → Step (cluster_of s) a b → Step u a b
  step_stays a b t =
      record {
        link = t.link;
        held = t.held;
        lo = t.lo;
        hi = t.hi;
        dense = reaches (alpha ⊗ min_weight) (s.params.settings.alpha ⊗ s.params.settings.min_weight)
            (faded_link s.params.settings.lambda s.t t.link) looser t.dense;
        from = number_stays a t.from;
        to = number_stays b t.to;
      }

  -- of one stream and its twin with lower bounds
  pub twins_stay : StayTogether (cluster_of s) u
  twins_stay i j w =
      ⊎_elim (λ both. absurd (w.other ((one.weak i m w.label hm.1 w.here).1 both.0)))
      (λ both.
      let family : OneFamily u m n = inr (strong_stays m both.0, strong_stays n both.1, chain_more step_stays both.2) in
      let e : k ≡ l = (two.families i j m n k l hm.1 hn.1 hk.1 hl.1).1 family in
      record {
        label = k;
        here = hk.1;
        there = subst (λ (v : ℤ). At u.labels j v) (sym e) hl.1;
        other = λ q. true≢false (sym (strong_stays m both.0) ∙ (two.weak i m k hm.1 hk.1).0 q);
      })
      ((one.families i j m n w.label w.label hm.1 hn.1 w.here w.there).0 refl)
    where
      one : LabelsTellFamilies (cluster_of s)
      one = labels_tell s asc few

      two : LabelsTellFamilies u
      two = labels_tell (twin alpha min_weight labels s) asc few

      below : (i : ℕ) (k : ℤ) → At (cluster_of s).labels i k → i < length s.held.micros
      below i k h = subst (λ (c : ℕ). i < c) one.count (at_below (cluster_of s).labels i k h)

      hm : (m : DbMicro) × At s.held.micros i m
      hm = at_there s.held.micros i (below i w.label w.here)

      hn : (n : DbMicro) × At s.held.micros j n
      hn = at_there s.held.micros j (below j w.label w.there)

      hk : (k : ℤ) × At u.labels i k
      hk = at_there u.labels i (subst (λ (c : ℕ). i < c) (sym two.count) (below i w.label w.here))

      hl : (l : ℤ) × At u.labels j l
      hl = at_there u.labels j (subst (λ (c : ℕ). j < c) (sym two.count) (below j w.label w.there))

      m : DbMicro
      m = hm.0

      n : DbMicro
      n = hn.0

      k : ℤ
      k = hk.0

      l : ℤ
      l = hl.0

-- of two streams after the same list
pub stay_together : (p q : Settings) → Laxer p q → (xs : List (List Float)) → StayTogether (cluster_of (after p xs)) (cluster_of (after q xs))
stay_together p q laxer xs =
    subst (λ (v : State). StayTogether (cluster_of s) (cluster_of v)) (sym (twins p q laxer xs).stream)
    (twins_stay q.alpha q.min_weight (twins p q laxer xs).labels s
    (subst (λ (c : Params). T (le q.min_weight c.settings.min_weight)) (sym same) laxer.min_weight)
    (subst (λ (c : Params). T (le (q.alpha ⊗ q.min_weight) (c.settings.alpha ⊗ c.settings.min_weight))) (sym same) laxer.density)
    (from_fresh p xs).ascending (micros_within p xs))
  where
    s : State
    s = after p xs

    same : s.params ≡ params_of p
    same = run_params dbstream has_place p xs
