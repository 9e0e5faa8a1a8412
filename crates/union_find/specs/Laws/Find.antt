-- What a find does to well-formed parents: every root stays, and among these places at most 3 halving steps are made. Assumes nothing.
use Rattle.std.specs.Prelude.{ℕ, zero, suc, ◌+◌, ◌-◌, ◌<◌, ◌≤◌, ◌≡◌, refl, ◌≢◌, ◌⊎◌, List, get_or}
use Rattle.std.proofs.Common.{sym, ◌∙◌, ap, subst, inl, inr, ⊎_elim, arith, get_or-set_other, eq-eqb, ne_eqb}
use Rattle.std.proofs.Math.Logic.{by_cases}
use Rattle.std.proofs.Math.Decide.{ℕ_discrete}
use Rattle.union_find.specs.Forest.{places, up, halve, Found, find_from, find_of}
use Rattle.union_find.specs.Laws.WellFormed.{root_of, top, via, root_is, root_eq, grand_ne, halve_well, halve_keeps}
use Rattle.union_find.specs.Inside.WellFormed.{WellFormed}

-- the two ways of a find
pub find_stop : (k : ℕ) (p : List ℕ) (x s : ℕ) → up p x ≡ x → find_from k p x s ≡ record { parent = p; root = x; steps = s }
unfolding find_from
find_stop zero p x s e = refl
find_stop (suc k) p x s e = rw (eq-eqb (up p x) x e)

-- at any other place it goes on
pub find_on : (k : ℕ) (p : List ℕ) (x s : ℕ) → up p x ≢ x → find_from (suc k) p x s ≡ find_from k (halve p x) (up p (up p x)) (suc s)
unfolding find_from
find_on k p x s e = rw (ne_eqb (up p x) x e)

-- how many steps s can have led to x: two ranks each, but for a last one to a root
abbrev pub Made : List ℕ → List ℕ → ℕ → ℕ → Type 0
Made p r x s = (s + s ≤ get_or r x 0) ⊎ ((up p x ≡ x) × (s ≤ 3))

module _ (p r : List ℕ) (wf : WellFormed p r) (x s : ℕ) (hx : x < places) (m : Made p r x s) where
  pub made_few : s ≤ 3
  made_few = ⊎_elim (λ h. let c : get_or r x 0 ≤ 6 = wf.cap x hx in omega arith) (λ h. h.1) m

  -- a halving step more
  pub made_next : up p x ≢ x → Made (halve p x) r (up p (up p x)) (suc s)
  made_next nx =
      let twice : s + s ≤ get_or r x 0 = ⊎_elim (λ h. h) (λ h. absurd (nx h.0)) m in
      let above : get_or r x 0 < get_or r (up p x) 0 = wf.rise x hx nx in
      let c : get_or r (up p x) 0 ≤ 6 = wf.cap (up p x) (wf.low x hx) in
      let kept : up (halve p x) (up p (up p x)) ≡ up p (up p (up p x)) = get_or-set_other p x (up p (up p x)) (up p (up p x)) 0 (grand_ne p r wf x hx nx) in
      by_cases (ℕ_discrete (up p (up p x)) (up p x)) (λ q. inr (kept ∙ ap (up p) q, omega arith))
      (λ q. inl (let d : get_or r (up p x) 0 < get_or r (up p (up p x)) 0 = wf.rise (up p x) (wf.low x hx) q in omega arith))

root_up : (p r : List ℕ) → WellFormed p r → (x : ℕ) → x < places → root_of p (up p x) ≡ root_of p x
root_up p r wf x hx = sym (root_eq p r wf hx (via (root_is p r wf (up p x) (wf.low x hx))))

-- what a find of x leaves
pub record Finds (p r : List ℕ) (x : ℕ) (f : Found) : Type 0 where
  pub well : WellFormed f.parent r
  -- every root stays
  pub same : (i : ℕ) → i < places → root_of f.parent i ≡ root_of p i
  pub is_root : f.root ≡ root_of p x
  pub low : f.root < places
  pub few : f.steps ≤ 3

finds : (r : List ℕ) (k : ℕ) (p : List ℕ) → WellFormed p r → (x s : ℕ) → x < places → 4 ≤ k + s → Made p r x s → Finds p r x (find_from k p x s)
finds r zero p wf x s hx hk m = absurd (let c : s ≤ 3 = made_few p r wf x s hx m in omega arith)
finds r (suc k) p wf x s hx hk m =
    by_cases (ℕ_discrete (up p x) x)
    (λ e. subst (Finds p r x) (sym (find_stop (suc k) p x s e))
    (record { well = wf; same = λ i hi. refl; is_root = sym (root_eq p r wf hx (top e)); low = hx; few = made_few p r wf x s hx m }))
    (λ e.
    let z = up p (up p x) in
    let hz : z < places = wf.low (up p x) (wf.low x hx) in
    let f : Finds (halve p x) r z (find_from k (halve p x) z (suc s)) =
    finds r k (halve p x) (halve_well p r wf x hx e) z (suc s) hz (omega arith) (made_next p r wf x s hx m e) in
    subst (Finds p r x) (sym (find_on k p x s e))
    (record {
      well = f.well;
      same = λ i hi. f.same i hi ∙ halve_keeps p r wf x hx e i hi;
      is_root = f.is_root ∙ halve_keeps p r wf x hx e z hz ∙ root_up p r wf (up p x) (wf.low x hx) ∙ root_up p r wf x hx;
      low = f.low;
      few = f.few;
    }))

-- what a find leaves
pub find_law : (p r : List ℕ) → WellFormed p r → (x : ℕ) → x < places → Finds p r x (find_of p x)
unfolding find_of
find_law p r wf x hx = finds r places p wf x 0 hx (omega arith) (inl (omega arith))

-- the steps that follow do not hang on those made before, nor on how many may follow
steps_apart :
    (r : List ℕ) (k j : ℕ) (p : List ℕ) →
    WellFormed p r →
    (x s t : ℕ) →
    x < places →
    4 ≤ k + s →
    Made p r x s →
    4 ≤ j + t →
    Made p r x t →
    (find_from k p x s).steps + t ≡ (find_from j p x t).steps + s
steps_apart r zero j p wf x s t hx hk m hj n = absurd (let c : s ≤ 3 = made_few p r wf x s hx m in omega arith)
steps_apart r (suc k) zero p wf x s t hx hk m hj n = absurd (let c : t ≤ 3 = made_few p r wf x t hx n in omega arith)
steps_apart r (suc k) (suc j) p wf x s t hx hk m hj n =
    by_cases (ℕ_discrete (up p x) x) (λ e. rw (find_stop (suc k) p x s e, find_stop (suc j) p x t e) (omega arith))
    (λ e.
    let ih =
    steps_apart r k j (halve p x) (halve_well p r wf x hx e) (up p (up p x)) (suc s) (suc t) (wf.low (up p x) (wf.low x hx)) (omega arith)
    (made_next p r wf x s hx m e) (omega arith) (made_next p r wf x t hx n e) in
    rw (find_on k p x s e, find_on j p x t e) (omega arith))

-- each halving leaves one step less
pub steps_less : (p r : List ℕ) → WellFormed p r → (x : ℕ) → x < places → up p x ≢ x → (find_of (halve p x) (up p (up p x))).steps < (find_of p x).steps
unfolding find_of
steps_less p r wf x hx e =
    let q =
    steps_apart r (places - 1) places (halve p x) (halve_well p r wf x hx e) (up p (up p x)) 1 0 (wf.low (up p x) (wf.low x hx)) (omega arith)
    (made_next p r wf x 0 hx (inl (omega arith)) e) (omega arith) (inl (omega arith)) in
    rw (find_on (places - 1) p x 0 e) (omega arith)
