-- A group's sum is that of the places chained to one of its members. Assumes nothing.
use Rattle.std.specs.Prelude.{ℕ, suc, ◌+◌, ◌<◌, ◌≤◌, ◌≡◌, refl, ◌↔◌, ◌≢◌, Bool, cond, eqb, length, get_or, drop, Float}
use Rattle.std.proofs.Common.{sym, ◌∙◌, subst, arith, drop-cons, eq-eqb, ne_eqb}
use Rattle.std.proofs.Math.Path.{ap}
use Rattle.std.proofs.Math.Logic.{by_cases}
use mathlib.Core.List.{List, [], ◌∷◌}
use Rattle.std.proofs.Math.Decide.{ℕ_discrete}
use Rattle.std.specs.Float.{binary64, nan}
use Rattle.std.specs.Float.Ieee.{add, of_bits}
use Rattle.union_find.specs.Pairs.{Joined, Chain}
use Rattle.union_find.specs.Forest.{places, roots_of}
use Rattle.union_find.specs.Laws.Union.{table_at}
use Rattle.union_find.proofs.Laws.Root.{RootsTell, roots_tell}
use Rattle.labels.specs.Group.{sum_from, sums_of, Summed, done, taken, passed}

-- one more place: its weight counts where its root is v
module _ (v : ℕ) (roots : List ℕ) (i : ℕ) (l : i < length roots) (sum w : Float) (ws : List Float) where
  pub sum_step : sum_from sum v (drop i roots) (w ∷ ws) ≡ sum_from (cond (eqb (get_or roots i 0) v) (add binary64 sum w) sum) v (drop (suc i) roots) ws
  unfolding sum_from
  sum_step = ap (λ (rs : List ℕ). sum_from sum v rs (w ∷ ws)) (drop-cons roots i 0 l)

  sum_take : get_or roots i 0 ≡ v → sum_from sum v (drop i roots) (w ∷ ws) ≡ sum_from (add binary64 sum w) v (drop (suc i) roots) ws
  sum_take e = sum_step ∙ ap (λ (t : Bool). sum_from (cond t (add binary64 sum w) sum) v (drop (suc i) roots) ws) (eq-eqb (get_or roots i 0) v e)

  sum_pass : get_or roots i 0 ≢ v → sum_from sum v (drop i roots) (w ∷ ws) ≡ sum_from sum v (drop (suc i) roots) ws
  sum_pass e = sum_step ∙ ap (λ (t : Bool). sum_from (cond t (add binary64 sum w) sum) v (drop (suc i) roots) ws) (ne_eqb (get_or roots i 0) v e)

-- no weight is left
pub sum_none : (sum : Float) (v : ℕ) (rs : List ℕ) → sum_from sum v rs [] ≡ sum
unfolding sum_from
sum_none sum v [] = refl
sum_none sum v (r ∷ rs) = refl

-- a sum goes by the roots of the places that have weights alone
pub sum_agree :
    (sum : Float) (v : ℕ) (rs qs : List ℕ) (ws : List Float) →
    length rs ≡ length qs →
    ((i : ℕ) → i < length ws → get_or rs i 0 ≡ get_or qs i 0) →
    sum_from sum v rs ws ≡ sum_from sum v qs ws
unfolding sum_from
sum_agree sum v [] [] ws l h = refl
sum_agree sum v [] (q ∷ qs) ws l h = absurd (omega arith)
sum_agree sum v (r ∷ rs) [] ws l h = absurd (omega arith)
sum_agree sum v (r ∷ rs) (q ∷ qs) [] l h = refl
sum_agree sum v (r ∷ rs) (q ∷ qs) (w ∷ ws) l h =
    sum_agree (cond (eqb r v) (add binary64 sum w) sum) v rs qs ws (omega arith) (λ i k. h (suc i) (omega arith))
    ∙ ap (λ (x : ℕ). sum_from (cond (eqb x v) (add binary64 sum w) sum) v qs ws) (h 0 (omega arith))

-- where P holds of the places whose root is v
module _ {P : ℕ → Type 0} (v : ℕ) (roots : List ℕ) (h : (k : ℕ) → k < length roots → P k ↔ (get_or roots k 0 ≡ v)) where
  sum_is : {i : ℕ} {sum x : Float} {ws : List Float} → Summed P i sum ws x → i + length ws ≤ length roots → x ≡ sum_from sum v (drop i roots) ws
  sum_is (done {i = i} {sum = sum}) l = sym (sum_none sum v (drop i roots))
  sum_is (taken {i = i} {sum = sum} {w = w} {ws = ws} p s) l =
      let k : i < length roots = omega arith in
      sum_is s (omega arith) ∙ sym (sum_take v roots i k sum w ws ((h i k).0 p))
  sum_is (passed {i = i} {sum = sum} {w = w} {ws = ws} p s) l =
      let k : i < length roots = omega arith in
      sum_is s (omega arith) ∙ sym (sum_pass v roots i k sum w ws (λ e. p ((h i k).1 e)))

  is_sum : (i : ℕ) (sum : Float) (ws : List Float) → i + length ws ≤ length roots → Summed P i sum ws (sum_from sum v (drop i roots) ws)
  is_sum i sum [] l = subst (Summed P i sum []) (sym (sum_none sum v (drop i roots))) done
  is_sum i sum (w ∷ ws) l =
      let k : i < length roots = omega arith in
      by_cases (ℕ_discrete (get_or roots i 0) v)
      (λ e. subst (Summed P i sum (w ∷ ws)) (sym (sum_take v roots i k sum w ws e)) (taken ((h i k).1 e) (is_sum (suc i) (add binary64 sum w) ws (omega arith))))
      (λ e. subst (Summed P i sum (w ∷ ws)) (sym (sum_pass v roots i k sum w ws e)) (passed (λ p. e ((h i k).0 p)) (is_sum (suc i) sum ws (omega arith))))

-- the sum at a place's root is that of the weights of the places chained to it, by index from 0
pub sums_tell : (n : ℕ) → n ≤ places → (es : List (ℕ × ℕ)) (ws : List Float) → length ws ≡ n → (i : ℕ) → i < n → (x : Float)
    → Summed (λ k. Chain (Joined n es) k i) 0 (of_bits binary64 0) ws x ↔ (x ≡ get_or (sums_of (roots_of n es) ws) (get_or (roots_of n es) i 0) nan)
unfolding sums_of
sums_tell n hn es ws size i hi x = (
  λ s. sum_is v roots same s fits ∙ sym at,
  λ e. subst (Summed P 0 (of_bits binary64 0) ws) (sym (e ∙ at))
      (is_sum v roots same 0 (of_bits binary64 0) ws fits),
)
  where
    roots : List ℕ
    roots = roots_of n es

    tell : RootsTell n es roots
    tell = roots_tell n hn es

    v : ℕ
    v = get_or roots i 0

    P : ℕ → Type 0
    P k = Chain (Joined n es) k i

    fits : 0 + length ws ≤ length roots
    fits = omega (arith, tell.count)

    same : (k : ℕ) → k < length roots → P k ↔ (get_or roots k 0 ≡ v)
    same k l = let q = tell.equal k i (omega (arith, tell.count)) (omega arith) in (q.1, q.0)

    at : get_or (sums_of roots ws) v nan ≡ sum_from (of_bits binary64 0) v roots ws
    at = table_at places (λ v. sum_from (of_bits binary64 0) v roots ws) nan v (tell.low i (omega arith))
