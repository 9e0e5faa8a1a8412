-- The joined pairs are exactly the pairs of places whose centres are close.
use Prim.Native.Nat.{ℕ, zero, suc, ◌+◌, ◌<◌}
use mathlib.Core.Path.{◌≡◌, refl, sym, subst}
use mathlib.Core.Bool.{Bool, true, false, cond}
use mathlib.Core.List.{List, [], ◌∷◌, ◌++◌, map}
use mathlib.Core.Logic.{◌⊎◌, inl, inr, ⊎_elim}
use native.Mathlib.Omega.{arith}
use lib.Ieee.{Float}
use lib.ListN.{length, get_or}
use Rattle.union_find.specs.Pairs.{Listed}
use Rattle.model.specs.declared.micro.DenMicro.{DenMicro}
use Rattle.model.specs.DenState.{State}
use Rattle.model.specs.DenCluster.{close, row_from, pairs_from, joins_of}
use Rattle.claims.specs.DenClaims.{centre, Step}

-- the mean of the one at place i of a list
abbrev mean_at : List DenMicro → ℕ → List Float
mean_at ms i = get_or (map (λ (m : DenMicro). m.body.cf.mean) ms) i []

abbrev Close : Float → List Float → List Float → Type 0
Close eps2 a b = close eps2 a b ≡ true

either : {P : Type 0} (t : Bool) (x y : List (ℕ × ℕ)) (a b : ℕ) → Listed (cond t x y) a b → (t ≡ true → Listed x a b → P) → (Listed y a b → P) → P
either true x y a b h f g = f refl h
either false x y a b h f g = g h

still : (t : Bool) (p : ℕ × ℕ) (r : List (ℕ × ℕ)) (a b : ℕ) → Listed r a b → Listed (cond t (p ∷ r) r) a b
still true p r a b h = inr h
still false p r a b h = h

-- a row, both ways
row_to :
    (e : Float) (i : ℕ) (m : List Float) (j : ℕ) (ks : List DenMicro) (a b : ℕ) →
    Listed (row_from e i m j ks) a b →
    (q : ℕ) × (q < length ks) × (a ≡ i) × (b ≡ j + q) × Close e m (mean_at ks q)
unfolding row_from
row_to e i m j [] a b h = absurd h
row_to e i m j (k ∷ ks) a b h =
    either (close e m k.body.cf.mean) ((i, j) ∷ row_from e i m (j + 1) ks) (row_from e i m (j + 1) ks) a b h
    (λ t.
    ⊎_elim (λ w. let v : b ≡ j = w.1 in (0, omega arith, w.0, omega arith, t))
    (λ r. further (row_to e i m (j + 1) ks a b r)))
    (λ r. further (row_to e i m (j + 1) ks a b r))
  where
    -- what the rest of the row tells, one place further on
    further :
        (q : ℕ) × (q < length ks) × (a ≡ i) × (b ≡ j + 1 + q) × Close e m (mean_at ks q) →
        (q : ℕ) × (q < length (k ∷ ks)) × (a ≡ i) × (b ≡ j + q) × Close e m (mean_at (k ∷ ks) q)
    further w =
        let l : w.0 < length ks = w.1 in
        let v : b ≡ j + 1 + w.0 = w.3 in
        (suc w.0, omega arith, w.2, omega arith, w.4)

row_from_lem :
    (e : Float) (i : ℕ) (m : List Float) (j : ℕ) (ks : List DenMicro) (q : ℕ) →
    q < length ks →
    Close e m (mean_at ks q) →
    Listed (row_from e i m j ks) i (j + q)
unfolding row_from
row_from_lem e i m j [] q h t = absurd (omega arith)
row_from_lem e i m j (k ∷ ks) zero h t =
    subst (λ (b : Bool). Listed (cond b ((i, j) ∷ row_from e i m (j + 1) ks) (row_from e i m (j + 1) ks)) i (j + 0)) (sym t) (inl (refl, omega arith))
row_from_lem e i m j (k ∷ ks) (suc q) h t =
    let r : Listed (row_from e i m (j + 1) ks) i (j + 1 + q) = row_from_lem e i m (j + 1) ks q (omega arith) t in
    let n : j + 1 + q ≡ j + suc q = omega arith in
    still (close e m k.body.cf.mean) (i, j) (row_from e i m (j + 1) ks) i (j + suc q) (subst (λ (b : ℕ). Listed (row_from e i m (j + 1) ks) i b) n r)

split : (x y : List (ℕ × ℕ)) (a b : ℕ) → Listed (x ++ y) a b → Listed x a b ⊎ Listed y a b
split [] y a b h = inr h
split (p ∷ x) y a b h = ⊎_elim (λ w. inl (inl w)) (λ r. ⊎_elim (λ u. inl (inr u)) (λ u. inr u) (split x y a b r)) h

on_left : (x y : List (ℕ × ℕ)) (a b : ℕ) → Listed x a b → Listed (x ++ y) a b
on_left [] y a b h = absurd h
on_left (p ∷ x) y a b h = ⊎_elim (λ w. inl w) (λ r. inr (on_left x y a b r)) h

on_right : (x y : List (ℕ × ℕ)) (a b : ℕ) → Listed y a b → Listed (x ++ y) a b
on_right [] y a b h = h
on_right (p ∷ x) y a b h = inr (on_right x y a b h)

-- all pairs, both ways
pairs_to :
    (e : Float) (i : ℕ) (ms : List DenMicro) (a b : ℕ) →
    Listed (pairs_from e i ms) a b →
    (p q : ℕ) × (p < q) × (q < length ms) × (a ≡ i + p) × (b ≡ i + q) × Close e (mean_at ms p) (mean_at ms q)
unfolding pairs_from
pairs_to e i [] a b h = absurd h
pairs_to e i (m ∷ ms) a b h =
    ⊎_elim
    (λ r.
    let w = row_to e i m.body.cf.mean (i + 1) ms a b r in
    let l : w.0 < length ms = w.1 in
    let u : a ≡ i = w.2 in
    let v : b ≡ i + 1 + w.0 = w.3 in
    (0, suc w.0, omega arith, omega arith, omega arith, omega arith, w.4))
    (λ r.
    let w = pairs_to e (i + 1) ms a b r in
    let f : w.0 < w.1 = w.2 in
    let l : w.1 < length ms = w.3 in
    let u : a ≡ i + 1 + w.0 = w.4 in
    let v : b ≡ i + 1 + w.1 = w.5 in
    (suc w.0, suc w.1, omega arith, omega arith, omega arith, omega arith, w.6))
    (split (row_from e i m.body.cf.mean (i + 1) ms) (pairs_from e (i + 1) ms) a b h)

pairs_from_lem :
    (e : Float) (i : ℕ) (ms : List DenMicro) (p q : ℕ) →
    p < q →
    q < length ms →
    Close e (mean_at ms p) (mean_at ms q) →
    Listed (pairs_from e i ms) (i + p) (i + q)
unfolding pairs_from
pairs_from_lem e i [] p q f h t = absurd (omega arith)
pairs_from_lem e i (m ∷ ms) p zero f h t = absurd (omega arith)
pairs_from_lem e i (m ∷ ms) zero (suc q) f h t =
    let u : i ≡ i + 0 = omega arith in
    let v : i + 1 + q ≡ i + suc q = omega arith in
    let r : Listed (row_from e i m.body.cf.mean (i + 1) ms) i (i + 1 + q) = row_from_lem e i m.body.cf.mean (i + 1) ms q (omega arith) t in
    let here : Listed (row_from e i m.body.cf.mean (i + 1) ms) i (i + suc q) =
    subst (λ (b : ℕ). Listed (row_from e i m.body.cf.mean (i + 1) ms) i b) v r in
    on_left (row_from e i m.body.cf.mean (i + 1) ms) (pairs_from e (i + 1) ms) (i + 0) (i + suc q)
    (subst (λ (a : ℕ). Listed (row_from e i m.body.cf.mean (i + 1) ms) a (i + suc q)) u here)
pairs_from_lem e i (m ∷ ms) (suc p) (suc q) f h t =
    let u : i + 1 + p ≡ i + suc p = omega arith in
    let v : i + 1 + q ≡ i + suc q = omega arith in
    let r : Listed (pairs_from e (i + 1) ms) (i + 1 + p) (i + 1 + q) = pairs_from_lem e (i + 1) ms p q (omega arith) (omega arith) t in
    on_right (row_from e i m.body.cf.mean (i + 1) ms) (pairs_from e (i + 1) ms) (i + suc p) (i + suc q)
    (subst (λ (a : ℕ). Listed (pairs_from e (i + 1) ms) a (i + suc q)) u (subst (λ (b : ℕ). Listed (pairs_from e (i + 1) ms) (i + 1 + p) b) v r))

-- a joined pair is a step of a chain
pub listed_step : (s : State) (i j : ℕ) → Listed (joins_of s) i j → Step s i j
listed_step s i j h =
    let w = pairs_to s.params.eps2 0 s.held.potential i j h in
    let f : w.0 < w.1 = w.2 in
    let l : w.1 < length s.held.potential = w.3 in
    let u : i ≡ w.0 = omega (arith, w.4) in
    let v : j ≡ w.1 = omega (arith, w.5) in
    let to_j : Close s.params.eps2 (centre s w.0) (centre s j) =
    subst (λ (b : ℕ). Close s.params.eps2 (centre s w.0) (centre s b)) (sym v) w.6 in
    record {
      first = omega arith;
      held = omega arith;
      near = subst (λ (a : ℕ). Close s.params.eps2 (centre s a) (centre s j)) (sym u) to_j;
    }

-- and a step is a joined pair
pub step_listed : (s : State) (i j : ℕ) → Step s i j → Listed (joins_of s) i j
step_listed s i j h =
    let u : 0 + i ≡ i = omega arith in
    let v : 0 + j ≡ j = omega arith in
    rw (u, v) at (pairs_from_lem s.params.eps2 0 s.held.potential i j h.first h.held h.near)
