-- DenStream's pairs due ascend by place, the lower place first.
use Prim.Native.Nat.{ℕ, suc, ◌+◌, ◌<◌, ◌≤◌}
use mathlib.Core.Path.{◌≡◌, refl, sym, ap, ◌∙◌}
use mathlib.Core.Logic.{inl, inr}
use mathlib.Core.Bool.{Bool, true, false, cond}
use mathlib.Core.List.{List, [], ◌∷◌}
use native.Mathlib.Omega.{arith}
use lib.Ieee.{Float}
use lib.ListN.{length, length-map}
use Rattle.lists.specs.Each.{Each}
use Rattle.lists.specs.Laws.Each.{each_more, each_append}
use Rattle.lists.specs.Retain.{retain}
use Rattle.model.specs.declared.micro.DenMicro.{DenMicro}
use Rattle.model.specs.Limits.{micros_most}
use Rattle.model.specs.DenState.{State}
use Rattle.model.specs.DenCluster.{close, row_from, pairs_from, joins_of, potential_ones}
use Rattle.model.specs.Denstream.{denstream}
use Rattle.claims.specs.Lists.{PairBefore, Ascending}
use Rattle.claims.specs.Finds.{FindsTold}
use Rattle.claims.proofs.Order.{ascending_append}
use Rattle.claims.proofs.Finds.{places_count, finds_told}

-- the pairs of a row: of place i, with places from j on
abbrev InRow : (i j n : ℕ) → ℕ × ℕ → Type 0
InRow i j n e = (e.0 ≡ i) × (j ≤ e.1) × (e.1 < j + n)

row_each : (eps2 : Float) (i : ℕ) (c : List Float) (j : ℕ) (l : List DenMicro) → Each (InRow i j (length l)) (row_from eps2 i c j l)
unfolding row_from
row_each eps2 i c j [] = tt
row_each eps2 i c j (m ∷ l) = go (close eps2 c m.body.cf.mean) (each_more further (row_from eps2 i c (j + 1) l) (row_each eps2 i c (j + 1) l))
  where
    further : (e : ℕ × ℕ) → InRow i (j + 1) (length l) e → InRow i j (length (m ∷ l)) e
    further e w = (w.0, omega (arith, w.1), omega (arith, w.2))

    go :
        (t : Bool) → Each (InRow i j (length (m ∷ l))) (row_from eps2 i c (j + 1) l) →
        Each (InRow i j (length (m ∷ l))) (cond t ((i, j) ∷ row_from eps2 i c (j + 1) l) (row_from eps2 i c (j + 1) l))
    go true e = ((refl, omega arith, omega arith), e)
    go false e = e

row_ascends : (eps2 : Float) (i : ℕ) (c : List Float) (j : ℕ) (l : List DenMicro) → Ascending PairBefore (row_from eps2 i c j l)
unfolding row_from
row_ascends eps2 i c j [] = tt
row_ascends eps2 i c j (m ∷ l) = go (close eps2 c m.body.cf.mean) (row_ascends eps2 i c (j + 1) l)
  where
    behind : (e : ℕ × ℕ) → InRow i (j + 1) (length l) e → PairBefore (i, j) e
    behind e w = inr (sym w.0, omega (arith, w.1))

    go :
        (t : Bool) → Ascending PairBefore (row_from eps2 i c (j + 1) l) →
        Ascending PairBefore (cond t ((i, j) ∷ row_from eps2 i c (j + 1) l) (row_from eps2 i c (j + 1) l))
    go true h = (each_more behind (row_from eps2 i c (j + 1) l) (row_each eps2 i c (j + 1) l), h)
    go false h = h

-- all pairs: the lower place first, both from i on
abbrev FromPlace : (i n : ℕ) → ℕ × ℕ → Type 0
FromPlace i n e = (i ≤ e.0) × (e.0 < e.1) × (e.1 < i + n)

pairs_each : (eps2 : Float) (i : ℕ) (l : List DenMicro) → Each (FromPlace i (length l)) (pairs_from eps2 i l)
unfolding pairs_from
pairs_each eps2 i [] = tt
pairs_each eps2 i (m ∷ l) =
    each_append (FromPlace i (length (m ∷ l))) (row_from eps2 i m.body.cf.mean (i + 1) l) (pairs_from eps2 (i + 1) l)
    (each_more first (row_from eps2 i m.body.cf.mean (i + 1) l) (row_each eps2 i m.body.cf.mean (i + 1) l))
    (each_more later (pairs_from eps2 (i + 1) l) (pairs_each eps2 (i + 1) l))
  where
    first : (e : ℕ × ℕ) → InRow i (i + 1) (length l) e → FromPlace i (length (m ∷ l)) e
    first e w = (omega (arith, w.0), omega (arith, w.0, w.1), omega (arith, w.2))

    later : (e : ℕ × ℕ) → FromPlace (i + 1) (length l) e → FromPlace i (length (m ∷ l)) e
    later e w = (omega (arith, w.0), w.1, omega (arith, w.2))

pairs_ascend : (eps2 : Float) (i : ℕ) (l : List DenMicro) → Ascending PairBefore (pairs_from eps2 i l)
unfolding pairs_from
pairs_ascend eps2 i [] = tt
pairs_ascend eps2 i (m ∷ l) =
    ascending_append PairBefore row rest (row_ascends eps2 i m.body.cf.mean (i + 1) l) (pairs_ascend eps2 (i + 1) l)
    (each_more (λ (a : ℕ × ℕ) u. each_more (λ (b : ℕ × ℕ) v. inl (omega (arith, u.0, v.0))) rest (pairs_each eps2 (i + 1) l)) row
    (row_each eps2 i m.body.cf.mean (i + 1) l))
  where
    row : List (ℕ × ℕ)
    row = row_from eps2 i m.body.cf.mean (i + 1) l

    rest : List (ℕ × ℕ)
    rest = pairs_from eps2 (i + 1) l

-- every potential one is sought
all_kept : (l : List DenMicro) → length (retain (λ (m : DenMicro). true) l) ≡ length l
unfolding retain
all_kept [] = refl
all_kept (m ∷ l) = ap suc (all_kept l)

pub told : (s : State) → length s.held.potential ≤ micros_most → FindsTold denstream s (length s.held.potential)
told s few =
    finds_told denstream s (omega (arith, size)) (length s.held.potential)
    (places_count (λ (m : DenMicro). true) 0 s.held.potential ∙ all_kept s.held.potential)
    (pairs_ascend s.params.eps2 0 s.held.potential)
    (each_more (λ (e : ℕ × ℕ) w. (w.1, omega (arith, w.2, size))) (joins_of s) (pairs_each s.params.eps2 0 s.held.potential))
  where
    size : length (potential_ones s) ≡ length s.held.potential
    size = length-map s.held.potential (λ (m : DenMicro). true)
