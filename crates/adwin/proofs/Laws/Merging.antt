-- Over 6 in a class, the two oldest merge into the newest of the next: sizes stay 2^class, exactly, and classes stay in order.
use Rattle.std.specs.Prelude.{◌≡◌, ℕ, suc, ◌+◌, ◌^◌, ◌<◌, ◌≤◌, Bool, true, false, cond, List, [], ◌∷◌, reverse, ◌==◌, nat_lt, refl, Float}
use Rattle.std.proofs.Common.{ap, sym, ◌∙◌, subst, arith, pow-suc, add-one, ltb-true, ltb-false, eqb-true}
use Rattle.std.proofs.lemmas.List.{reverse-reverse}
use Rattle.std.proofs.Math.Logic.{by_cases}
use Rattle.std.proofs.Math.Decide.{dec_le, ℕ_discrete}
use Rattle.std.proofs.Math.Nat.{pow-le-pow_right, min-eq_left}
use Rattle.std.specs.Float.Ieee.{of_bits, of_int}
use Rattle.std.proofs.lemmas.Bool.{eqb-false}
use Rattle.float.specs.Rounded.{◌⊕◌, Exact}
use Rattle.float.specs.Laws.Whole.{exact_one, exact_sum}
use Rattle.adwin.specs.Settings.{cap, limit, class_most}
use Rattle.adwin_buckets.specs.Bucket.{single_of}
use Rattle.adwin.specs.Buckets.{Classed, carry, push_of, pair_of, next_class}
use Rattle.adwin.specs.History.{values_in, Sized}
use Rattle.adwin.specs.Laws.Stacked.{Stacked, none, same, next, values_reverse, sized_reverse}

-- ---- classes and sizes, from the values that there are
pub class_low : (c : ℕ) → 2 ^ c ≤ limit → c ≤ class_most
class_low c h =
    by_cases (dec_le c class_most) (λ e. e)
    (λ e. absurd (let g : suc class_most ≤ c = omega arith in let p : 2 ^ suc class_most ≤ 2 ^ c = pow-le-pow_right (omega arith) g in omega arith))

doubled : (c : ℕ) → 2 ^ (c + 1) ≡ 2 ^ c + 2 ^ c
doubled c = ap (λ (n : ℕ). 2 ^ n) (add-one c) ∙ pow-suc 2 c ∙ omega arith

next_is : (c : ℕ) → c ≤ class_most → next_class c ≡ c + 1
next_is c h = min-eq_left (omega arith)

-- ---- what follows a class follows the class below, and the other way round when that is full
lowered : (c k : ℕ) {l : List Classed} → Stacked (c + 1) 0 l → Stacked c k l
lowered c k none = none
lowered c k (same {b = b} {l = l} e h s) = let g : c < b.class = omega arith in next g (subst (λ (i : ℕ). Stacked i 1 l) (sym e) s)
lowered c k (next {b = b} h s) = let g : c < b.class = omega arith in next g s

raised : (c k : ℕ) {l : List Classed} → cap ≤ k → Stacked c k l → Stacked (c + 1) 0 l
raised c k g none = none
raised c k g (same e h s) = absurd (omega arith)
raised c k g (next {b = b} h s) = by_cases (ℕ_discrete b.class (c + 1)) (λ e. same e (omega arith) (rw e at s)) (λ e. next (omega arith) s)

-- ---- the carry
pub record Carried (k : ℕ) (y : Classed) (older r : List Classed) : Type 0 where
  pub stacked : Stacked y.class k r
  pub sized : Sized r
  pub values : values_in r ≡ 2 ^ y.class + values_in older

module _ (k : ℕ) (y x : Classed) (l : List Classed) (h : k < cap) (e : Exact (2 ^ y.class) y.bucket.size) (z : Sized (x ∷ l))
    (m : 2 ^ y.class + values_in (x ∷ l) ≤ limit) where
  -- what is shown already: the merged pair carried on, and x carried on as one more of its class
  abbrev PairGoes : Type 0
  PairGoes =
      let p = pair_of x y in
      Stacked p.class 0 l → Exact (2 ^ p.class) p.bucket.size → 2 ^ p.class + values_in l ≤ limit → Carried 0 p l (carry 0 p l)

  abbrev NextGoes : Type 0
  NextGoes = k + 1 < cap → Stacked x.class (k + 1) l → 2 ^ x.class + values_in l ≤ limit → Carried (k + 1) x l (carry (k + 1) x l)

  pair_carried : x.class ≡ y.class → Stacked y.class (suc k) l → cap < k + 2 → PairGoes → Carried k y (x ∷ l) (carry 0 (pair_of x y) l)
  pair_carried f t g ih =
      let c = y.class in
      let o : c ≤ class_most = class_low c (omega arith) in
      let n : next_class c ≡ c + 1 = next_is c o in
      let d : 2 ^ next_class c ≡ 2 ^ c + 2 ^ c = ap (λ (i : ℕ). 2 ^ i) n ∙ doubled c in
      let u : 2 ^ x.class + 2 ^ c ≡ 2 ^ next_class c = ap (λ (i : ℕ). 2 ^ i + 2 ^ c) f ∙ sym d in
      let r = ih (subst (λ (i : ℕ). Stacked i 0 l) (sym n) (raised c (suc k) (omega arith) t))
      (subst (λ (i : ℕ). Exact i (x.bucket.size ⊕ y.bucket.size)) u (exact_sum z.0 e (omega arith))) (omega arith) in
      let v : values_in (carry 0 (pair_of x y) l) ≡ 2 ^ next_class c + values_in l = r.values in
      record { stacked = lowered c k (subst (λ (i : ℕ). Stacked i 0 (carry 0 (pair_of x y) l)) n r.stacked); sized = r.sized; values = omega arith }

  next_carried : x.class ≡ y.class → Stacked y.class (suc k) l → k + 2 ≤ cap → NextGoes → Carried k y (x ∷ l) (y ∷ carry (k + 1) x l)
  next_carried f t g ih =
      let r = ih (omega arith) (subst (λ (i : ℕ). Stacked i (k + 1) l) (sym f) (subst (λ (i : ℕ). Stacked y.class i l) (sym (add-one k)) t)) (omega arith) in
      let o = carry (k + 1) x l in
      record {
        stacked = same refl h (subst (λ (i : ℕ). Stacked i (suc k) o) f
            (subst (λ (i : ℕ). Stacked x.class i o) (add-one k) r.stacked));
        sized = (e, r.sized);
        values = ap (λ (i : ℕ). 2 ^ y.class + i) r.values;
      }

  step :
      (a : Bool) →
      (x.class == y.class) ≡ a →
      (b : Bool) →
      nat_lt cap (k + 2) ≡ b →
      Stacked y.class k (x ∷ l) →
      PairGoes →
      NextGoes →
      Carried k y (x ∷ l) (cond a (cond b (carry 0 (pair_of x y) l) (y ∷ carry (k + 1) x l)) (y ∷ x ∷ l))
  step false p b q (same f g t) ip iq = absurd (eqb-false x.class y.class p f)
  step false p b q (next g t) ip iq = record { stacked = same refl h (next g t); sized = (e, z); values = refl }
  step true p b q (next g t) ip iq = absurd (let u : x.class ≡ y.class = eqb-true x.class y.class p in omega arith)
  step true p true q (same f g t) ip iq = pair_carried f t (ltb-true cap (k + 2) q) ip
  step true p false q (same f g t) ip iq = next_carried f t (ltb-false cap (k + 2) q) iq

carried :
    (k : ℕ) (y : Classed) (older : List Classed) →
    k < cap →
    Stacked y.class k older →
    Exact (2 ^ y.class) y.bucket.size →
    Sized older →
    2 ^ y.class + values_in older ≤ limit →
    Carried k y older (carry k y older)
unfolding carry
carried k y [] h s e z m = record { stacked = same refl h none; sized = (e, tt); values = refl }
carried k y (x ∷ l) h s e z m =
    step k y x l h e z m (x.class == y.class) refl (nat_lt cap (k + 2)) refl s
    (λ t w g. carried 0 (pair_of x y) l (omega arith) t w z.1 g)
    (λ i t g. carried (k + 1) x l i t z.0 z.1 g)

-- ---- one more value
pub record Pushed (held r : List Classed) : Type 0 where
  pub stacked : Stacked 0 0 (reverse r)
  pub sized : Sized r
  pub values : values_in r ≡ values_in held + 1

-- a value more: the buckets stay stacked and sized, and stand for one value more
pub pushed : (held : List Classed) (x : Float) → Stacked 0 0 (reverse held) → Sized held → values_in held + 1 ≤ limit → Pushed held (push_of held (single_of x))
unfolding push_of of_bits of_int
pushed held x s z m =
    let y : Classed = record { class = 0; bucket = single_of x } in
    let v : values_in (reverse held) ≡ values_in held = values_reverse held in
    let r : Carried 0 y (reverse held) (carry 0 y (reverse held)) = carried 0 y (reverse held) (omega arith) s exact_one (sized_reverse held z) (omega arith) in
    record {
      stacked = rw reverse-reverse r.stacked;
      sized = sized_reverse (carry 0 y (reverse held)) r.sized;
      values = values_reverse (carry 0 y (reverse held))
          ∙ (let u : values_in (carry 0 y (reverse held)) ≡ 1 + values_in (reverse held) = r.values in omega arith);
    }
