-- Forests of parents and ranks that `UnionFind` makes: ranks rise towards the root, halving keeps every root, and linking makes two roots one. Assumes nothing.
use Rattle.std.specs.Prelude.{ℕ, zero, suc, ◌+◌, ◌^◌, ◌<◌, ◌≤◌, ◌≡◌, refl, ◌≢◌, ◌⊎◌, Bool, cond, List, eqb, length, get_or, set}
use Rattle.std.proofs.Common.{sym, ◌∙◌, ap, ap₂, subst, subst₂, arith, zero-add, le_of_eq, le_trans, length-set, get_or-set_same, get_or-set_other, pow_mono, eq-eqb, ne_eqb}
use Rattle.std.proofs.Math.Logic.{by_cases}
use Rattle.std.proofs.Math.Decide.{ℕ_discrete, dec_le}
use Rattle.union_find.specs.Laws.Sum.{sum_agree, sum_has, sum_two}
use Rattle.union_find.specs.Inside.Sum.{sum}
use Rattle.union_find.specs.Inside.WellFormed.{weigh, WellFormed}
use Rattle.union_find.specs.Laws.Merging.{Merged, redirected}
use Rattle.union_find.specs.Forest.{places, up, halve}

-- climbing k times
abbrev pub climb : ℕ → List ℕ → ℕ → ℕ
climb zero p x = x
climb (suc k) p x = climb k p (up p x)

-- the root above x: no place is more than 6 below one
unfoldable pub root_of : List ℕ → ℕ → ℕ
root_of p x = climb 6 p x

-- y is the root above x
pub data Root (p : List ℕ) : ℕ → ℕ → Type 0 where
  top : {x : ℕ} → up p x ≡ x → Root p x x
  via : {x y : ℕ} → Root p (up p x) y → Root p x y

-- a root is its own parent
pub root_top : {p : List ℕ} {x y : ℕ} → Root p x y → up p y ≡ y
root_top (top e) = e
root_top (via d) = root_top d

-- what is its own parent has no other root
pub root_of_top : {p : List ℕ} {x y : ℕ} → up p x ≡ x → Root p x y → x ≡ y
root_of_top e (top q) = refl
root_of_top {p} {x} {y} e (via d) = sym e ∙ root_of_top (ap (up p) e) d

-- there is one root
pub root_one : {p : List ℕ} {x y z : ℕ} → Root p x y → Root p x z → y ≡ z
root_one (top e) d = root_of_top e d
root_one {p} (via c) (top e) = sym (sym e ∙ root_of_top (ap (up p) e) c)
root_one (via c) (via d) = root_one c d

climb_root : (p : List ℕ) (x : ℕ) (k : ℕ) → up p x ≡ x → climb k p x ≡ x
climb_root p x zero e = refl
climb_root p x (suc k) e = ap (climb k p) e ∙ climb_root p x k e

module _ (p r : List ℕ) (wf : WellFormed p r) where
  climbs : (k x : ℕ) → x < places → 6 ≤ k + get_or r x 0 → Root p x (climb k p x)
  climbs zero x hx hk = go (ℕ_discrete (up p x) x)
    where
      go : Dec (up p x ≡ x) → Root p x x
      go (yes e) = top e
      go (no e) =
          absurd (let a : get_or r x 0 < get_or r (up p x) 0 = wf.rise x hx e in let b : get_or r (up p x) 0 ≤ 6 = wf.cap (up p x) (wf.low x hx) in omega arith)
  climbs (suc k) x hx hk =
      by_cases (ℕ_discrete (up p x) x) (λ e. subst (Root p x) (sym (climb_root p x (suc k) e)) (top e))
      (λ e. via (climbs k (up p x) (wf.low x hx) (let a : get_or r x 0 < get_or r (up p x) 0 = wf.rise x hx e in omega arith)))

  -- `root_of` is the root
  pub root_is : (x : ℕ) → x < places → Root p x (root_of p x)
  unfolding root_of
  root_is x hx = climbs 6 x hx (omega arith)

  -- and no other is
  pub root_eq : {x y : ℕ} → x < places → Root p x y → root_of p x ≡ y
  root_eq {x} hx d = root_one (root_is x hx) d

  -- the root is a place
  pub root_low : {x y : ℕ} → x < places → Root p x y → y < places
  root_low hx (top e) = hx
  root_low {x} hx (via d) = root_low (wf.low x hx) d

  -- a grandparent's rank is above the place's own
  pub grand_rank : (x : ℕ) → x < places → up p x ≢ x → get_or r x 0 < get_or r (up p (up p x)) 0
  grand_rank x hx e =
      by_cases (ℕ_discrete (up p (up p x)) (up p x))
      (λ q. subst (λ (k : ℕ). get_or r x 0 < get_or r k 0) (sym q) (wf.rise x hx e))
      (λ q. let a : get_or r x 0 < get_or r (up p x) 0 = wf.rise x hx e in let b : get_or r (up p x) 0 < get_or r (up p (up p x)) 0 = wf.rise (up p x)
      (wf.low x hx) q in omega arith)

  -- a grandparent is another place
  pub grand_ne : (x : ℕ) → x < places → up p x ≢ x → up p (up p x) ≢ x
  grand_ne x hx e q =
      let a : get_or r x 0 < get_or r (up p (up p x)) 0 = grand_rank x hx e in
      let b : get_or r (up p (up p x)) 0 ≡ get_or r x 0 = ap (λ (k : ℕ). get_or r k 0) q in omega arith

module _ (p r : List ℕ) (wf : WellFormed p r) (x : ℕ) (hx : x < places) (nx : up p x ≢ x) where
  at_x : up (halve p x) x ≡ up p (up p x)
  at_x = get_or-set_same p x (up p (up p x)) 0 (let e : length p ≡ places = wf.plen in omega arith)

  at_other : (i : ℕ) → i ≢ x → up (halve p x) i ≡ up p i
  at_other i e = get_or-set_other p x i (up p (up p x)) 0 e

  halve_root : {i y : ℕ} → Root p i y → Root (halve p x) i y
  halve_root (top {x = i} e) = top (at_other i (λ (q : i ≡ x). nx (subst (λ (k : ℕ). up p k ≡ k) q e)) ∙ e)
  halve_root (via {x = i} {y = y} d) =
      by_cases (ℕ_discrete i x) (λ q. via (subst (λ (k : ℕ). Root (halve p x) k y) (sym (ap (up (halve p x)) q ∙ at_x))
      (skip (subst (λ (k : ℕ). Root (halve p x) (up p k) y) q (halve_root d)))))
      (λ q. via (subst (λ (k : ℕ). Root (halve p x) k y) (sym (at_other i q)) (halve_root d)))
    where
      skip : {y : ℕ} → Root (halve p x) (up p x) y → Root (halve p x) (up p (up p x)) y
      skip {y} d = elim' d (at_other (up p x) nx)
        where
          elim' : {z y : ℕ} → Root (halve p x) z y → up (halve p x) z ≡ up p z → Root (halve p x) (up p z) y
          elim' (top {x = z} e) q = subst (λ (k : ℕ). Root (halve p x) k z) (sym e ∙ q) (top e)
          elim' (via {y = y} d) q = subst (λ (k : ℕ). Root (halve p x) k y) q d

  weigh_kept : (i : ℕ) → i < places → weigh p r i ≡ weigh (halve p x) r i
  weigh_kept i hi =
      by_cases (ℕ_discrete i x)
      (λ q. subst (λ (k : ℕ). weigh p r k ≡ weigh (halve p x) r k) (sym q)
      (ap (λ (t : Bool). cond t (2 ^ get_or r x 0) 0) (ne_eqb (up p x) x nx ∙ sym (ne_eqb (up (halve p x) x) x (λ e. grand_ne p r wf x hx nx (sym at_x ∙ e))))))
      (λ q. ap (λ (k : ℕ). cond (eqb k i) (2 ^ get_or r i 0) 0) (sym (at_other i q)))

  -- halving keeps the forest well-formed
  pub halve_well : WellFormed (halve p x) r
  halve_well =
      record {
        plen = length-set p x (up p (up p x)) ∙ wf.plen;
        rlen = wf.rlen;
        low = λ i hi. by_cases (ℕ_discrete i x)
            (λ q. subst (λ (k : ℕ). up (halve p x) k < places) (sym q) (subst (λ (k : ℕ). k < places) (sym at_x) (wf.low (up p x) (wf.low x hx))))
            (λ q. subst (λ (k : ℕ). k < places) (sym (at_other i q)) (wf.low i hi));
        rise = λ i hi. by_cases (ℕ_discrete i x)
            (λ q. subst (λ (k : ℕ). up (halve p x) k ≢ k → get_or r k 0 < get_or r (up (halve p x) k) 0) (sym q)
            (λ e. subst (λ (k : ℕ). get_or r x 0 < get_or r k 0) (sym at_x) (grand_rank p r wf x hx nx)))
            (λ q. subst (λ (k : ℕ). k ≢ i → get_or r i 0 < get_or r k 0) (sym (at_other i q)) (wf.rise i hi));
        cap = wf.cap;
        weight = subst (λ (k : ℕ). k ≤ places) (sum_agree places (weigh p r) (weigh (halve p x) r) weigh_kept) wf.weight;
      }

  -- halving keeps every root
  pub halve_keeps : (i : ℕ) → i < places → root_of (halve p x) i ≡ root_of p i
  halve_keeps i hi = root_eq (halve p x) r halve_well hi (halve_root (root_is p r wf i hi))

pow_cap : (k : ℕ) → 2 ^ k ≤ places → k ≤ 6
pow_cap k h = by_cases (dec_le k 6) (λ q. q) (λ q. absurd (let l : 7 ≤ k = omega arith in let a : 2 ^ 7 ≤ 2 ^ k = pow_mono l in omega arith))

module _ (p r : List ℕ) (wf : WellFormed p r) (x y : ℕ) (hx : x < places) (hy : y < places) (tx : up p x ≡ x) (ty : up p y ≡ y) (xy : x ≢ y) where
  link_x : up (set p x y) x ≡ y
  link_x = get_or-set_same p x y 0 (let e : length p ≡ places = wf.plen in omega arith)

  link_other : (i : ℕ) → i ≢ x → up (set p x y) i ≡ up p i
  link_other i e = get_or-set_other p x i y 0 e

  link_y : up (set p x y) y ≡ y
  link_y = link_other y (λ (e : y ≡ x). xy (sym e)) ∙ ty

  -- the root of what stood under x is y, and any other root stays
  link_over : {i : ℕ} → Root p i x → Root (set p x y) i y
  link_over d = over d refl
    where
      over : {i z : ℕ} → Root p i z → z ≡ x → Root (set p x y) i y
      over (top {x = i} e) q = subst (λ (k : ℕ). Root (set p x y) k y) (sym q) (via (subst (λ (k : ℕ). Root (set p x y) k y) (sym link_x) (top link_y)))
      over (via {x = i} d) q =
          by_cases (ℕ_discrete i x)
          (λ e. subst (λ (k : ℕ). Root (set p x y) k y) (ap (up p) e ∙ tx ∙ sym e) (over d q))
          (λ e. via (subst (λ (k : ℕ). Root (set p x y) k y) (sym (link_other i e)) (over d q)))

  link_away : {i z : ℕ} → Root p i z → z ≢ x → Root (set p x y) i z
  link_away (top {x = i} e) q = top (link_other i q ∙ e)
  link_away (via {x = i} {y = z} d) q =
      by_cases (ℕ_discrete i x)
      (λ e. subst (λ (k : ℕ). Root (set p x y) k z) (ap (up p) e ∙ tx ∙ sym e) (link_away d q))
      (λ e. via (subst (λ (k : ℕ). Root (set p x y) k z) (sym (link_other i e)) (link_away d q)))

  module _ (r' : List ℕ) (wf' : WellFormed (set p x y) r') where
    link_root_over : (i : ℕ) → i < places → root_of p i ≡ x → root_of (set p x y) i ≡ y
    link_root_over i hi e = root_eq (set p x y) r' wf' hi (link_over (subst (Root p i) e (root_is p r wf i hi)))

    link_root_away : (i : ℕ) → i < places → root_of p i ≢ x → root_of (set p x y) i ≡ root_of p i
    link_root_away i hi e = root_eq (set p x y) r' wf' hi (link_away (root_is p r wf i hi) e)

    -- linking the roots of a and b, either way round
    pub link_merges :
        (a b : ℕ) →
        a < places →
        b < places →
        ((root_of p a ≡ x) × (root_of p b ≡ y)) ⊎ ((root_of p a ≡ y) × (root_of p b ≡ x)) →
        Merged places (root_of p) (root_of (set p x y)) a b
    link_merges a b ha hb ab = redirected x y ha hb link_root_over link_root_away ab

  -- the weights after linking, by where the ranks may differ: at y alone
  module _ (r' : List ℕ) (other : (i : ℕ) → i ≢ y → get_or r' i 0 ≡ get_or r i 0) where
    weigh_x : weigh (set p x y) r' x ≡ 0
    weigh_x = ap (λ (t : Bool). cond t (2 ^ get_or r' x 0) 0) (ne_eqb (up (set p x y) x) x (λ e. xy (sym e ∙ link_x)))

    weigh_y : weigh (set p x y) r' y ≡ 2 ^ get_or r' y 0
    weigh_y = ap (λ (t : Bool). cond t (2 ^ get_or r' y 0) 0) (eq-eqb (up (set p x y) y) y link_y)

    weigh_other : (i : ℕ) → i < places → i ≢ x → i ≢ y → weigh p r i ≡ weigh (set p x y) r' i
    weigh_other i hi ix iy = ap₂ (λ (k m : ℕ). cond (eqb k i) (2 ^ m) 0) (sym (link_other i ix)) (sym (other i iy))

    weighs : sum places (weigh p r) + 2 ^ get_or r' y 0 ≡ sum places (weigh (set p x y) r') + (2 ^ get_or r x 0 + 2 ^ get_or r y 0)
    weighs =
        let q : sum places (weigh p r) + (weigh (set p x y) r' x + weigh (set p x y) r' y) ≡ sum places (weigh (set p x y) r') + (weigh p r x + weigh p r y) =
        sum_two places (weigh p r) (weigh (set p x y) r') x y hx hy xy weigh_other in
        let qx : weigh p r x ≡ 2 ^ get_or r x 0 = ap (λ (t : Bool). cond t (2 ^ get_or r x 0) 0) (eq-eqb (up p x) x tx) in
        let qy : weigh p r y ≡ 2 ^ get_or r y 0 = ap (λ (t : Bool). cond t (2 ^ get_or r y 0) 0) (eq-eqb (up p y) y ty) in
        let q1 : weigh (set p x y) r' x ≡ 0 = weigh_x in
        let q2 : weigh (set p x y) r' y ≡ 2 ^ get_or r' y 0 = weigh_y in
        subst₂ (λ (m k : ℕ). sum places (weigh p r) + m ≡ sum places (weigh (set p x y) r') + k) (ap₂ ◌+◌ weigh_x weigh_y ∙ zero-add _) (ap₂ ◌+◌ qx qy) q

    -- a rank of y that is above x's, not below its own, and no heavier than both
    pub link_well :
        length r' ≡ places →
        get_or r x 0 < get_or r' y 0 →
        get_or r y 0 ≤ get_or r' y 0 →
        2 ^ get_or r' y 0 ≤ 2 ^ get_or r x 0 + 2 ^ get_or r y 0 →
        WellFormed (set p x y) r'
    link_well len above grown light =
        record {
          plen = length-set p x y ∙ wf.plen;
          rlen = len;
          low = λ i hi. by_cases (ℕ_discrete i x)
              (λ q. subst (λ (k : ℕ). k < places) (sym (ap (up (set p x y)) q ∙ link_x)) hy)
              (λ q. subst (λ (k : ℕ). k < places) (sym (link_other i q)) (wf.low i hi));
          rise = λ i hi n. by_cases (ℕ_discrete i x)
              (λ q. subst₂ (λ (k m : ℕ). k < get_or r' m 0) (sym (other x xy) ∙ ap (λ (k : ℕ). get_or r' k 0) (sym q)) (sym (ap (up (set p x y)) q ∙ link_x)) above)
              (λ q.
              let iy : i ≢ y = λ (u : i ≡ y). n (ap (up (set p x y)) u ∙ link_y ∙ sym u) in
              let ne : up p i ≢ i = λ u. n (link_other i q ∙ u) in
              let a : get_or r' i 0 ≡ get_or r i 0 = other i iy in
              let b : get_or r i 0 < get_or r (up p i) 0 = wf.rise i hi ne in
              let c : get_or r (up p i) 0 ≤ get_or r' (up p i) 0 = not_less (up p i) in
              let d : get_or r' (up (set p x y) i) 0 ≡ get_or r' (up p i) 0 = ap (λ (k : ℕ). get_or r' k 0) (link_other i q) in
              omega arith);
          cap = λ i hi. by_cases (ℕ_discrete i y) (λ q. subst (λ (k : ℕ). get_or r' k 0 ≤ 6) (sym q) cap_y)
              (λ q. subst (λ (k : ℕ). k ≤ 6) (sym (other i q)) (wf.cap i hi));
          weight = lighter;
        }
      where
        not_less : (i : ℕ) → get_or r i 0 ≤ get_or r' i 0
        not_less i = by_cases (ℕ_discrete i y) (λ q. subst (λ (k : ℕ). get_or r k 0 ≤ get_or r' k 0) (sym q) grown) (λ q. le_of_eq (sym (other i q)))

        lighter : sum places (weigh (set p x y) r') ≤ places
        lighter =
            let q : sum places (weigh p r) + 2 ^ get_or r' y 0 ≡ sum places (weigh (set p x y) r') + (2 ^ get_or r x 0 + 2 ^ get_or r y 0) = weighs in
            let w : sum places (weigh p r) ≤ places = wf.weight in
            linear (sum places (weigh p r)) (sum places (weigh (set p x y) r')) (2 ^ get_or r' y 0) (2 ^ get_or r x 0 + 2 ^ get_or r y 0) q w light
          where
            linear : (a b c d : ℕ) → a + c ≡ b + d → a ≤ places → c ≤ d → b ≤ places
            linear a b c d q w l = omega arith

        cap_y : get_or r' y 0 ≤ 6
        cap_y =
            pow_cap (get_or r' y 0)
            (le_trans (subst (λ (k : ℕ). k ≤ sum places (weigh (set p x y) r')) weigh_y (sum_has places (weigh (set p x y) r') y hy)) lighter)
