-- A point's doubles, read one by one. Assumes nothing.
use Rattle.std.specs.Prelude.{◌≡◌, ℕ, suc, ◌+◌, ◌-◌, ◌*◌, ◌<◌, List, ◌∷◌, ◌++◌, Float, length, take, set}
use Rattle.std.proofs.Common.{arith, sym, ap, ap₂, ◌∙◌, add-one, take-suc-set}
use mathlib.Core.List.{append-nil}
use Rattle.std.proofs.Math.Seq.{append_snoc}
use Rattle.input_session.specs.Input.{double_at, doubles_from}

module _ (bytes : List ℕ) (dim : ℕ) (x : List Float) (i : ℕ) where
  -- the first i are read
  abbrev pub Partly : Type 0
  Partly = take i x ++ doubles_from (dim - i) bytes (i * 8) ≡ doubles_from dim bytes 0

  pub read_step :
      Partly →
      i < dim →
      i < length x →
      (v : Float) →
      v ≡ double_at bytes (i * 8) →
      take (i + 1) (set x i v) ++ doubles_from (dim - (i + 1)) bytes ((i + 1) * 8) ≡ doubles_from dim bytes 0
  unfolding doubles_from
  read_step e h l v q =
      let n : dim - i ≡ suc (dim - (i + 1)) = omega arith in
      let p : (i + 1) * 8 ≡ i * 8 + 8 = omega arith in
      ap₂ (λ (f r : List Float). f ++ r) (ap (λ (k : ℕ). take k (set x i v)) (add-one i) ∙ take-suc-set x i v l) (ap (doubles_from (dim - (i + 1)) bytes) p)
      ∙ append_snoc (take i x) v (doubles_from (dim - (i + 1)) bytes (i * 8 + 8))
      ∙ ap (λ (d : Float). take i x ++ d ∷ doubles_from (dim - (i + 1)) bytes (i * 8 + 8)) q
      ∙ ap (λ (k : ℕ). take i x ++ doubles_from k bytes (i * 8)) (sym n)
      ∙ e

  pub read_end : Partly → i ≡ dim → take dim x ≡ doubles_from dim bytes 0
  unfolding doubles_from
  read_end e h =
      let n : dim - i ≡ 0 = omega arith in
      ap (λ (k : ℕ). take k x) (sym h)
      ∙ sym (append-nil (take i x))
      ∙ ap (λ (k : ℕ). take i x ++ doubles_from k bytes (i * 8)) (sym n)
      ∙ e

pub read_start : (bytes : List ℕ) (dim : ℕ) → doubles_from (dim - 0) bytes (0 * 8) ≡ doubles_from dim bytes 0
read_start bytes dim =
    let n : dim - 0 ≡ dim = omega arith in
    let p : 0 * 8 ≡ 0 = omega arith in
    ap₂ (λ (k i : ℕ). doubles_from k bytes i) n p
