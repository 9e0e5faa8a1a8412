-- The loop of `sums`. Assumes nothing.
use Prim.Native.Nat.{ℕ, suc, ◌+◌, ◌<◌, ◌≤◌, min}
use mathlib.Core.Path.{◌≡◌, refl, sym, ◌∙◌, ap, subst}
use mathlib.Core.Logic.{by_cases}
use mathlib.Core.Bool.{Bool, cond}
use mathlib.Core.List.{List, []}
use native.Mathlib.Omega.{arith}
use native.Mathlib.Numerals.{add-one}
use native.Mathlib.Decide.{ℕ_discrete, dec_le}
use lib.Dec.{eqb}
use lib.ListN.{length, drop, get_or, set, replicate, length-set, length-replicate, get_or-replicate, drop_of_length-le}
use lib.Seq.{drop-cons, get_or-set_same, get_or-set_other, ext_get_or}
use lib.Ieee.{Float, binary64, add, of_bits, nan}
use borrow.Author.Tests.{eq-eqb, ne_eqb}
use Rattle.union_find.specs.Laws.Union.{table_length, table_at}
use Rattle.union_find.specs.Forest.{places, table}
use Rattle.labels.specs.Group.{sum_from, sums_of}
use Rattle.labels.specs.Laws.Group.{sum_step, sum_none}

-- the sums of the places passed; adding those left gives the whole
pub record Summing (roots : List ℕ) (weights : List Float) (sums : List Float) (i : ℕ) : Type 0 where
  pub size : length sums ≡ places
  pub made :
      (v : ℕ) → v < places →
      sum_from (get_or sums v nan) v (drop i roots) (drop i weights) ≡ sum_from (of_bits binary64 0) v roots weights

-- no weight is added
pub sums_start : (roots : List ℕ) (weights : List Float) → Summing roots weights (replicate places (of_bits binary64 0)) 0
sums_start roots weights =
    record {
      size = length-replicate places (of_bits binary64 0);
      made = λ v hv. ap (λ (s : Float). sum_from s v roots weights) (get_or-replicate places v (of_bits binary64 0) nan hv);
    }

module _ (roots : List ℕ) (weights : List Float) (sums : List Float) (i : ℕ) (t : Summing roots weights sums i)
    (lr : i < length roots) (lw : i < length weights) where
  abbrev r : ℕ
  r = get_or roots i 0

  abbrev w : Float
  w = get_or weights i nan

  sums_next :
      (sums' : List Float) → length sums' ≡ places →
      ((v : ℕ) → v < places → get_or sums' v nan ≡ cond (eqb r v) (add binary64 (get_or sums v nan) w) (get_or sums v nan)) →
      Summing roots weights sums' (i + 1)
  sums_next sums' size' e =
      record {
        size = size';
        made = λ v hv.
            ap (λ (k : ℕ). sum_from (get_or sums' v nan) v (drop k roots) (drop k weights)) (add-one i)
            ∙ ap (λ (s : Float). sum_from s v (drop (suc i) roots) (drop (suc i) weights)) (e v hv)
            ∙ sym (sum_step v roots i lr (get_or sums v nan) w (drop (suc i) weights))
            ∙ ap (λ (ws : List Float). sum_from (get_or sums v nan) v (drop i roots) ws) (sym (drop-cons weights i nan lw))
            ∙ t.made v hv;
      }

  -- the root is a place, or it is none
  pub sums_take : r < places → Summing roots weights (set sums r (add binary64 (get_or sums r nan) w)) (i + 1)
  sums_take hr =
      sums_next (set sums r x) (length-set sums r x ∙ t.size)
      (λ v hv.
      by_cases (ℕ_discrete r v)
      (λ e.
      subst (λ (k : ℕ). get_or (set sums r x) k nan ≡ cond (eqb r k) (add binary64 (get_or sums k nan) w) (get_or sums k nan)) e
      (get_or-set_same sums r x nan (omega (arith, t.size)) ∙ sym (ap (λ (b : Bool). cond b x (get_or sums r nan)) (eq-eqb r r refl))))
      (λ e. get_or-set_other sums r v x nan (λ q. e (sym q))
      ∙ sym (ap (λ (b : Bool). cond b (add binary64 (get_or sums v nan) w) (get_or sums v nan)) (ne_eqb r v e))))
    where
      x : Float
      x = add binary64 (get_or sums r nan) w

  -- a root that is no place: nothing is added
  pub sums_pass : places ≤ r → Summing roots weights sums (i + 1)
  sums_pass hr =
      sums_next sums t.size (λ v hv. sym (ap (λ (b : Bool). cond b (add binary64 (get_or sums v nan) w) (get_or sums v nan))
      (ne_eqb r v (λ (e : r ≡ v). omega arith))))

no_root : (s : Float) (v : ℕ) (ws : List Float) → sum_from s v [] ws ≡ s
unfolding sum_from
no_root s v ws = refl

-- no root or no weight is left: all are added
pub sums_end :
    (roots : List ℕ) (weights : List Float) (sums : List Float) (i : ℕ) → i ≡ min (length roots) (length weights) → Summing roots weights sums i →
    sums ≡ sums_of roots weights
unfolding sums_of
sums_end roots weights sums i e t =
    ext_get_or nan sums (table places sum) (t.size ∙ sym (table_length places sum))
    (λ v hv.
    let h : v < places = omega (arith, t.size) in
    sym (left (get_or sums v nan) v) ∙ t.made v h ∙ sym (table_at places sum nan v h))
  where
    sum : ℕ → Float
    sum v = sum_from (of_bits binary64 0) v roots weights

    left : (s : Float) (v : ℕ) → sum_from s v (drop i roots) (drop i weights) ≡ s
    left s v =
        by_cases (dec_le (length weights) i)
        (λ h. ap (sum_from s v (drop i roots)) (drop_of_length-le weights h) ∙ sum_none s v (drop i roots))
        (λ h. ap (λ (rs : List ℕ). sum_from s v rs (drop i weights)) (drop_of_length-le roots (omega arith)) ∙ no_root s v (drop i weights))
