-- The close pairs, as two loops go through them. Assumes nothing.
use Prim.Native.Nat.{ℕ, suc, ◌+◌, ◌*◌, ◌≤◌, ◌<◌}
use mathlib.Core.Path.{◌≡◌, sym, ap, ◌∙◌}
use mathlib.Core.Bool.{Bool, true, false, cond}
use mathlib.Core.List.{List, [], ◌∷◌, ◌++◌, map, append-nil, append_assoc}
use native.Mathlib.Omega.{arith}
use native.Mathlib.Numerals.{add-one}
use native.Mathlib.Nat.{mul-add, add-mul, mul-one, one-mul, mul-le-mul_left}
use lib.Ieee.{Float, binary64, le, of_bits}
use lib.ListN.{length, take, drop, get_or, length-append, length-map, drop_of_length-le}
use lib.Seq.{drop-cons, append_snoc}
use Rattle.float.specs.Rounded.{◌⊗◌}
use Rattle.feature.specs.Distance.{sq_dist}
use Rattle.model.specs.declared.micro.DenMicro.{DenMicro}
use Rattle.model.specs.Limits.{micros_most, links_most}
use Rattle.model.specs.DenCluster.{close, row_from, pairs_from}
use Rattle.den_pool.specs.Held.{micro_in}

-- from a place on: the one there, and those after it
next : (l : List DenMicro) (j : ℕ) (z : DenMicro) → j < length l → drop j l ≡ get_or l j z ∷ drop (j + 1) l
next l j z h = drop-cons l j z h ∙ ap (λ (k : ℕ). get_or l j z ∷ drop k l) (sym (add-one j))

-- ---- a row: the pairs of place i with those after it, of which j are done and `left j` are to come
module _ (eps2 : Float) (i : ℕ) (centre : List Float) (dim : ℕ) (l : List DenMicro) where
  abbrev pub left : ℕ → List (ℕ × ℕ)
  left j = row_from eps2 i centre (i + 1 + j) (map (micro_in dim) (drop j l))

  abbrev reach : Float
  reach = of_bits binary64 0x4010_0000_0000_0000 ⊗ eps2

  abbrev pub row : List (ℕ × ℕ)
  row = row_from eps2 i centre (i + 1) (map (micro_in dim) l)

  pub row_start : left 0 ≡ row
  row_start = ap (λ (n : ℕ). row_from eps2 i centre n (map (micro_in dim) l)) (omega arith)

  left_step :
      (j : ℕ) (z : DenMicro) → j < length l →
      left j ≡ cond (close eps2 centre (take dim (get_or l j z).body.cf.mean)) ((i, i + 1 + j) ∷ left (j + 1)) (left (j + 1))
  unfolding row_from
  left_step j z h =
      ap (λ (r : List DenMicro). row_from eps2 i centre (i + 1 + j) (map (micro_in dim) r)) (next l j z h)
      ∙ ap (λ (n : ℕ). let r : List (ℕ × ℕ) = row_from eps2 i centre n (map (micro_in dim) (drop (j + 1) l)) in
      cond (close eps2 centre (take dim (get_or l j z).body.cf.mean)) ((i, i + 1 + j) ∷ r) r) (let e : i + 1 + j + 1 ≡ i + 1 + (j + 1) = omega arith in e)

  module _ (all ps : List (ℕ × ℕ)) (j : ℕ) (done : ps ++ left j ≡ all) where
    pub row_end : length l ≤ j → ps ≡ all
    unfolding row_from
    row_end h =
        sym (append-nil ps)
        ∙ ap (λ (r : List DenMicro). ps ++ row_from eps2 i centre (i + 1 + j) (map (micro_in dim) r)) (sym (drop_of_length-le l h)) ∙ done

    module _ (z : DenMicro) (h : j < length l) (v : Float) (e : v ≡ sq_dist centre (take dim (get_or l j z).body.cf.mean)) where
      left_is : (t : Bool) → le v reach ≡ t → left j ≡ cond t ((i, i + 1 + j) ∷ left (j + 1)) (left (j + 1))
      left_is t w = left_step j z h ∙ ap (λ (b : Bool). cond b ((i, i + 1 + j) ∷ left (j + 1)) (left (j + 1))) (ap (λ (d : Float). le d reach) (sym e) ∙ w)

      pub row_room : le v reach ≡ true → length ps < length all
      row_room w = omega (arith, ap length done, length-append ps (left j), ap length (left_is true w))

      pub row_close : le v reach ≡ true → (ps ++ (i, i + 1 + j) ∷ []) ++ left (j + 1) ≡ all
      row_close w = append_snoc ps (i, i + 1 + j) (left (j + 1)) ∙ ap (λ (r : List (ℕ × ℕ)). ps ++ r) (sym (left_is true w)) ∙ done

      pub row_far : le v reach ≡ false → ps ++ left (j + 1) ≡ all
      row_far w = ap (λ (r : List (ℕ × ℕ)). ps ++ r) (sym (left_is false w)) ∙ done

-- ---- how many pairs there are at most
row_few : (eps2 : Float) (i : ℕ) (centre : List Float) (j : ℕ) (l : List DenMicro) → length (row_from eps2 i centre j l) ≤ length l
unfolding row_from
row_few eps2 i centre j [] = omega arith
row_few eps2 i centre j (m ∷ l) = go (close eps2 centre m.body.cf.mean) (row_from eps2 i centre (j + 1) l) (row_few eps2 i centre (j + 1) l)
  where
    go : (t : Bool) (r : List (ℕ × ℕ)) → length r ≤ length l → length (cond t ((i, j) ∷ r) r) ≤ suc (length l)
    go true r h = omega arith
    go false r h = omega arith

next_square : (k : ℕ) → (k + 1) * (k + 1) ≡ k * k + 2 * k + 1
next_square k = simp (mul-add, add-mul, mul-one, one-mul) (omega arith)

twice_few : (eps2 : Float) (i : ℕ) (l : List DenMicro) → 2 * length (pairs_from eps2 i l) + length l ≤ length l * length l
unfolding pairs_from
twice_few eps2 i [] = omega arith
twice_few eps2 i (m ∷ l) =
    let a : length (row_from eps2 i m.body.cf.mean (i + 1) l) ≤ length l = row_few eps2 i m.body.cf.mean (i + 1) l in
    let b : 2 * length (pairs_from eps2 (i + 1) l) + length l ≤ length l * length l = twice_few eps2 (i + 1) l in
    let c = length-append (row_from eps2 i m.body.cf.mean (i + 1) l) (pairs_from eps2 (i + 1) l) in
    rw (← add-one (length l)) (omega (arith, c, next_square (length l)))

pairs_few : (eps2 : Float) (i : ℕ) (l : List DenMicro) → length l ≤ micros_most → length (pairs_from eps2 i l) ≤ links_most
pairs_few eps2 i l h =
    let a : 2 * length (pairs_from eps2 i l) + length l ≤ length l * length l = twice_few eps2 i l in
    let b : length l * length l ≤ length l * micros_most = mul-le-mul_left (length l) h in
    omega arith

-- ---- all rows: those of the places from i on are to come
module _ (eps2 : Float) (dim : ℕ) (l : List DenMicro) where
  abbrev pub rows : ℕ → List (ℕ × ℕ)
  rows i = pairs_from eps2 i (map (micro_in dim) (drop i l))

  abbrev row_of : (i : ℕ) → DenMicro → List (ℕ × ℕ)
  row_of i z = row eps2 i (take dim (get_or l i z).body.cf.mean) dim (drop (i + 1) l)

  module _ (ps : List (ℕ × ℕ)) (i : ℕ) (done : ps ++ rows i ≡ rows 0) where
    pub pair_end : length l ≤ i → ps ≡ rows 0
    unfolding pairs_from
    pair_end h =
        sym (append-nil ps) ∙ ap (λ (r : List DenMicro). ps ++ pairs_from eps2 i (map (micro_in dim) r)) (sym (drop_of_length-le l h)) ∙ done

    module _ (z : DenMicro) (h : i < length l) where
      rows_step : rows i ≡ row_of i z ++ rows (i + 1)
      unfolding pairs_from
      rows_step = ap (λ (r : List DenMicro). pairs_from eps2 i (map (micro_in dim) r)) (next l i z h)

      pub pair_room : length l ≤ micros_most → length ps + length (row_of i z) ≤ links_most
      pair_room s =
          let few : length (rows 0) ≤ links_most = pairs_few eps2 0 (map (micro_in dim) l) (omega (arith, length-map l (micro_in dim))) in
          omega (arith, few, ap length done, length-append ps (rows i), ap length rows_step, length-append (row_of i z) (rows (i + 1)))

      pub pair_next : (ps ++ row_of i z) ++ rows (i + 1) ≡ rows 0
      pair_next = append_assoc ps (row_of i z) (rows (i + 1)) ∙ ap (λ (r : List (ℕ × ℕ)). ps ++ r) (sym rows_step) ∙ done
