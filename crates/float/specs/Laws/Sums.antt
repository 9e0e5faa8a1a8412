-- A sum of two doubles is the same in either order. Assumes nothing.
use Rattle.std.specs.Prelude.{◌≡◌, ℕ, ◌-◌, ◌*◌, ◌<◌, ◌≤◌, Bool, true, false, cond, not, T, nat_lt, Float}
use Rattle.std.proofs.Common.{add_comm, mul_comm, arith, ◌∙◌, ltb→lt, nltb→le}
use Rattle.std.proofs.Math.Path.{refl, sym, ap}
use Rattle.std.specs.Float.{nan, inf, fin, Format, binary64}
use Rattle.std.specs.Float.Ieee.{up, down, round, sum, add}
use Rattle.float.specs.Rounded.{◌⊕◌}
use Rattle.float.specs.Laws.Opened.{add_nan}

module _ (f : Format) (c : ℕ) where
  -- of different signs
  away : (a b : ℕ) → sum f true a false b c ≡ sum f false b true a c
  unfolding sum
  away a b = go (nat_lt a b) (nat_lt b a) (ltb→lt a b) (nltb→le a b) (ltb→lt b a) (nltb→le b a)
    where
      go :
          (x y : Bool) → (T x → a < b) → (T (not x) → b ≤ a) → (T y → b < a) → (T (not y) → a ≤ b) →
          cond x (round f false (b - a) c) (round f y (a - b) c) ≡ cond y (round f true (a - b) c) (round f false (b - a) c)
      go true true p p' q q' = absurd (omega (arith, p tt, q tt))
      go true false p p' q q' = refl
      go false true p p' q q' = refl
      go false false p p' q q' =
          let same : a - b ≡ b - a = omega (arith, p' tt, q' tt) in
          ap (λ (n : ℕ). round f false n c) same

  sum_comm : (s : Bool) (a : ℕ) (t : Bool) (b : ℕ) → sum f s a t b c ≡ sum f t b s a c
  unfolding sum
  sum_comm true a true b = ap (λ (n : ℕ). round f true n c) (add_comm a b)
  sum_comm true a false b = away a b
  sum_comm false a true b = sym (away b a)
  sum_comm false a false b = ap (λ (n : ℕ). round f false n c) (add_comm a b)

-- whatever the doubles
pub ⊕_comm : (x y : Float) → x ⊕ y ≡ y ⊕ x
unfolding add
⊕_comm nan y = sym (add_nan binary64 y)
⊕_comm (inf s) nan = refl
⊕_comm (inf true) (inf true) = refl
⊕_comm (inf true) (inf false) = refl
⊕_comm (inf false) (inf true) = refl
⊕_comm (inf false) (inf false) = refl
⊕_comm (inf s) (fin t n d) = refl
⊕_comm (fin s m e) nan = refl
⊕_comm (fin s m e) (inf t) = refl
⊕_comm (fin s m e) (fin t n d) =
    sum_comm binary64 (down e * down d) s (m * up e * down d) t (n * up d * down e)
    ∙ ap (sum binary64 t (n * up d * down e) s (m * up e * down d)) (mul_comm (down e) (down d))
