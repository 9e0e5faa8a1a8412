-- A double between two bounds stays between bounds under each operation. Bounds are counted in units of 1/u, a power of two, so that they are
-- doubles themselves. Assumes nothing.
use Rattle.std.specs.Prelude.{◌≡◌, ℕ, zero, suc, ◌+◌, ◌-◌, ◌*◌, ◌^◌, ◌<◌, ◌≤◌, Bool, true, false, ◌&&◌, T, ℤ, pos, nat_le, nat_lt, refl, Float}
use Rattle.std.proofs.Common.{sym, ap, ◌∙◌, le_trans, lt_of_lt_of_le, lt_of_le_of_lt, mul-one, mul_comm, mul_assoc, mul_left_comm, mul_right_comm, add-mul, zero-mul, mul-le-mul, mul-le-mul_right, le_of_mul-le-mul_right, mul-pos, zero-lt-suc, arith, true≢false, leb→le, ltb→lt, pow-add, pow_pos, pow_mono, shl_lt}
use Rattle.std.specs.Float.{nan, inf, fin, binary64}
use Rattle.std.specs.Float.Ieee.{up, down, round, unlike, neg, le, of_bits}
use Rattle.std.specs.Float.Ieee.Fits.{down_pos, up_pos}
use Rattle.std.specs.Float.Ieee.Digits.{back}
use Rattle.std.specs.Float.Ieee.Exact.{HasValue, round_exact}
use Rattle.std.specs.Float.Ieee.Order.{round_mono, transfer}
use Rattle.float.specs.Rounded.{◌⊕◌, ◌⊖◌, ◌⊗◌, ◌⊘◌, one, whole, Is}
use Rattle.float.specs.Laws.Opened.{Plus, plus_round, round_neg, mul_fin, div_fin, add_fin, sum_same, sum_away}
use Rattle.float.specs.Laws.Ordered.{le→parts, sub_opened}
use Rattle.float.specs.Laws.Whole.{whole_is}

-- the fraction n/c is from a/u to b/u
abbrev pub Bounded : (u a b n c : ℕ) → Type 0
Bounded u a b n c = (a * c ≤ n * u) × (n * u ≤ b * c)

-- x is finite, has the sign s, and its size is from a/u to b/u
pub data In : Bool → ℕ → ℕ → ℕ → Float → Type 0 where
  sized : {s : Bool} {u a b : ℕ} (m : ℕ) (e : ℤ) → a * down e ≤ m * up e * u → m * up e * u ≤ b * down e → In s u a b (fin s m e)

-- ---- rounding keeps a bound that is a double
value_le :
    (m : ℕ) (e : ℤ) (n : ℕ) (d : ℤ) (a c b k : ℕ) →
    m * up e * c ≡ a * down e →
    n * up d * k ≡ b * down d →
    T (le (fin false m e) (fin false n d)) →
    a * k ≤ b * c
value_le m e n d a c b k v w h =
    let p = le→parts false m e false n d h in
    transfer a b c k (m * up e) (n * up d) (down e) (down d) (down_pos e) (down_pos d) (sym v) (sym w) (omega arith)

between :
    (u a b : ℕ) (lo x hi : Float) →
    HasValue lo false a u →
    HasValue hi false b u →
    Plus x →
    T (le lo x) →
    T (le x hi) →
    In false u a b x
between u a b nan x hi v w p h k = absurd v
between u a b (inf s) x hi v w p h k = absurd v
between u a b (fin s l c) x nan v w p h k = absurd w
between u a b (fin s l c) x (inf t) v w p h k = absurd w
between u a b (fin s l c) nan (fin t n d) v w p h k = absurd p
between u a b (fin s l c) (inf true) (fin t n d) v w p h k = absurd (true≢false p)
between u a b (fin s l c) (inf false) (fin t n d) v w p h k = absurd (unfold le in k)
between u a b (fin s l c) (fin true m e) (fin t n d) v w p h k = absurd (true≢false p)
between u a b (fin true l c) (fin false m e) (fin t n d) v w p h k = absurd (true≢false v.0)
between u a b (fin false l c) (fin false m e) (fin true n d) v w p h k = absurd (true≢false w.0)
between u a b (fin false l c) (fin false m e) (fin false n d) v w p h k =
    sized m e (value_le l c m e a u (m * up e) (down e) v.1 refl h) (value_le m e n d (m * up e) (down e) b u refl w.1 k)

neg_in : {u a b : ℕ} {x : Float} → In false u a b x → In true u a b (neg x)
unfolding neg
neg_in (sized m e l h) = sized m e l h

-- the bounds are doubles: each has its own value when it is rounded
module _ (u a b n c : ℕ) (U : 0 < u) (C : 0 < c)
    (low : HasValue (round binary64 false a u) false a u) (high : HasValue (round binary64 false b u) false b u) where
  round_plus : Bounded u a b n c → In false u a b (round binary64 false n c)
  round_plus (h, k) =
      between u a b (round binary64 false a u) (round binary64 false n c) (round binary64 false b u) low high (plus_round binary64 n c)
      (round_mono binary64 a u n c U C h) (round_mono binary64 n c b u C U k)

  -- rounding keeps bounds that are doubles themselves
  pub round_between : (s : Bool) → Bounded u a b n c → In s u a b (round binary64 s n c)
  round_between true h = rw (round_neg binary64 n c) (neg_in (round_plus h))
  round_between false h = round_plus h

-- ---- in plain arithmetic: the operations on x/w, from a/u to b/u, and y/z, from c/u to d/u
module _ (u a b c d x w y z : ℕ) (U : 0 < u) (X : Bounded u a b x w) (Y : Bounded u c d y z) where
  times : (p q : ℕ) → p * u ≤ a * c → b * d ≤ q * u → Bounded u p q (x * y) (w * z)
  times p q P R =
      let A = simp (mul_assoc, mul_comm, mul_left_comm) at (mul-le-mul_right (w * z) P) in
      let B = simp (mul_assoc, mul_comm, mul_left_comm) at (mul-le-mul X.0 Y.0) in
      let C = simp (mul_assoc, mul_comm, mul_left_comm) at (mul-le-mul X.1 Y.1) in
      let D = simp (mul_assoc, mul_comm, mul_left_comm) at (mul-le-mul_right (w * z) R) in (
        le_of_mul-le-mul_right {k = u} (simp (mul_assoc, mul_comm, mul_left_comm) (le_trans A B)) U,
        le_of_mul-le-mul_right {k = u} (simp (mul_assoc, mul_comm, mul_left_comm) (le_trans C D)) U,
      )

  over : (p q : ℕ) → 0 < c → p * d ≤ a * u → b * u ≤ q * c → Bounded u p q (x * z) (y * w)
  over p q K P R =
      let A = simp (mul_assoc, mul_comm, mul_left_comm) at (mul-le-mul_right (p * w) Y.1) in
      let B = simp (mul_assoc, mul_comm, mul_left_comm) at (mul-le-mul_right (z * w) P) in
      let C = simp (mul_assoc, mul_comm, mul_left_comm) at (mul-le-mul_right (z * u) X.0) in
      let D = simp (mul_assoc, mul_comm, mul_left_comm) at (mul-le-mul_right (z * c) X.1) in
      let E = simp (mul_assoc, mul_comm, mul_left_comm) at (mul-le-mul_right (b * w) Y.0) in
      let F = simp (mul_assoc, mul_comm, mul_left_comm) at (mul-le-mul_right (y * w) R) in (
        le_of_mul-le-mul_right {k = u} (simp (mul_assoc, mul_comm, mul_left_comm) (le_trans A (le_trans B C))) U,
        le_of_mul-le-mul_right {k = c} (simp (mul_assoc, mul_comm, mul_left_comm) (le_trans D (le_trans E F))) K,
      )

  plus : Bounded u (a + c) (b + d) (x * z + y * w) (w * z)
  plus =
      let A = simp (mul_assoc, mul_comm, mul_left_comm) at (mul-le-mul_right z X.0) in
      let B = simp (mul_assoc, mul_comm, mul_left_comm) at (mul-le-mul_right w Y.0) in
      let C = simp (mul_assoc, mul_comm, mul_left_comm) at (mul-le-mul_right z X.1) in
      let D = simp (mul_assoc, mul_comm, mul_left_comm) at (mul-le-mul_right w Y.1) in
      (simp (add-mul, mul_assoc, mul_comm, mul_left_comm) (omega arith), simp (add-mul, mul_assoc, mul_comm, mul_left_comm) (omega arith))

  minus : (p q : ℕ) → p + d ≤ a → b ≤ q + c → (y * w ≤ x * z) × Bounded u p q (x * z - y * w) (w * z)
  minus p q P R =
      let A = simp (mul_assoc, mul_comm, mul_left_comm) at (mul-le-mul_right z X.0) in
      let B = simp (mul_assoc, mul_comm, mul_left_comm) at (mul-le-mul_right w Y.0) in
      let C = simp (mul_assoc, mul_comm, mul_left_comm) at (mul-le-mul_right z X.1) in
      let D = simp (mul_assoc, mul_comm, mul_left_comm) at (mul-le-mul_right w Y.1) in
      let E = simp (add-mul, mul_assoc, mul_comm, mul_left_comm) at (mul-le-mul_right (w * z) P) in
      let F = simp (add-mul, mul_assoc, mul_comm, mul_left_comm) at (mul-le-mul_right (w * z) R) in
      let g : y * w ≤ x * z = le_of_mul-le-mul_right {k = u} (simp (mul_assoc, mul_comm, mul_left_comm) (omega arith)) U in
      let e = simp (add-mul, mul_assoc, mul_comm, mul_left_comm) at (ap (λ (n : ℕ). n * u) (back (x * z) (y * w) g)) in
      (g, (simp (mul_assoc, mul_comm, mul_left_comm) (omega arith), simp (mul_assoc, mul_comm, mul_left_comm) (omega arith)))

-- ---- u is 2^j. What is asked of numerals is a test, so that the answer is tt
yes : (a b c : Bool) → T (a && b && c) → T a × T b × T c
yes true true true t = (tt, tt, tt)
yes true true false t = absurd t
yes true false c t = absurd t
yes false b c t = absurd t

module _ (j : ℕ) (J : T (nat_le j 1074)) where
  bound_is : (a : ℕ) → a < 2 ^ 53 → HasValue (round binary64 false a (2 ^ j)) false a (2 ^ j)
  bound_is a A =
      let l : j ≤ 1074 = leb→le j 1074 J in
      round_exact binary64 false a (2 ^ j) a (1074 - j) (pow_pos j) A
      (lt_of_lt_of_le (shl_lt 53 (1074 - j) A) (pow_mono {i = 53 + (1074 - j)} {j = 2098} (omega arith)))
      (ap (λ (n : ℕ). a * n) (ap (λ (n : ℕ). 2 ^ n) (sym (back 1074 j l)) ∙ pow-add 2 (1074 - j) j) ∙ sym (mul_assoc a (2 ^ (1074 - j)) (2 ^ j)))

  -- rounding keeps bounds in units of 2^−j
  pub round_in : (s : Bool) (a b n c : ℕ) → T (nat_lt b (2 ^ 53)) → 0 < c → Bounded (2 ^ j) a b n c → In s (2 ^ j) a b (round binary64 s n c)
  round_in s a b n c B C h =
      let k : b < 2 ^ 53 = ltb→lt b (2 ^ 53) B in
      let l : a ≤ b = le_of_mul-le-mul_right {k = c} (le_trans h.0 h.1) C in
      round_between (2 ^ j) a b n c (pow_pos j) C (bound_is a (lt_of_le_of_lt l k)) (bound_is b k) s h

  -- 1 in these units
  pub one_in : In false (2 ^ j) (2 ^ j) (2 ^ j) one
  unfolding of_bits
  one_in = sized {u = 2 ^ j} {a = 2 ^ j} {b = 2 ^ j} 1 (pos 0) (omega arith) (omega arith)

  -- a whole number in these units
  pub whole_in : (n a b : ℕ) → n ≤ 2 ^ 53 → a ≤ n * 2 ^ j → n * 2 ^ j ≤ b → In false (2 ^ j) a b (whole n)
  whole_in n a b N A B = go (whole n) (whole_is n N)
    where
      go : (x : Float) → Is x n → In false (2 ^ j) a b x
      go nan p = absurd p
      go (inf s) p = absurd p
      go (fin true m e) p = absurd (true≢false p.0)
      go (fin false m e) p =
          let v : m * up e * 2 ^ j ≡ n * 2 ^ j * down e =
          ap (λ (k : ℕ). k * 2 ^ j) (sym (mul-one (m * up e)) ∙ p.1) ∙ mul_right_comm n (down e) (2 ^ j) in
          let l = mul-le-mul_right (down e) A in
          let h = mul-le-mul_right (down e) B in
          sized {u = 2 ^ j} {a = a} {b = b} m e (omega arith) (omega arith)

  -- ---- the operations: p and q are the bounds of the result
  pub mul_in :
      {s t : Bool} {a b c d : ℕ} {x y : Float} (p q : ℕ) →
      T (nat_le (p * 2 ^ j) (a * c) && nat_le (b * d) (q * 2 ^ j) && nat_lt q (2 ^ 53)) →
      In s (2 ^ j) a b x →
      In t (2 ^ j) c d y →
      In (unlike s t) (2 ^ j) p q (x ⊗ y)
  mul_in {s} {t} {a} {b} {c} {d} p q r (sized m e l h) (sized n g l' h') =
      let k = yes (nat_le (p * 2 ^ j) (a * c)) (nat_le (b * d) (q * 2 ^ j)) (nat_lt q (2 ^ 53)) r in
      rw (mul_fin binary64 s m e t n g)
      (round_in (unlike s t) p q (m * up e * (n * up g)) (down e * down g) k.2 (mul-pos (down_pos e) (down_pos g))
      (times (2 ^ j) a b c d (m * up e) (down e) (n * up g) (down g) (pow_pos j) (l, h) (l', h') p q
      (leb→le (p * 2 ^ j) (a * c) k.0) (leb→le (b * d) (q * 2 ^ j) k.1)))

  -- a quotient's bounds
  pub div_in :
      {s t : Bool} {a b c d : ℕ} {x y : Float} (p q : ℕ) →
      T (nat_lt 0 c) →
      T (nat_le (p * d) (a * 2 ^ j) && nat_le (b * 2 ^ j) (q * c) && nat_lt q (2 ^ 53)) →
      In s (2 ^ j) a b x →
      In t (2 ^ j) c d y →
      In (unlike s t) (2 ^ j) p q (x ⊘ y)
  div_in {c = c} p q K r (sized m e l h) (sized zero g l' h') = absurd (
      let k : 0 < c * down g = mul-pos (ltb→lt 0 c K) (down_pos g) in
      let z : 0 * up g * 2 ^ j ≡ 0 = rw zero-mul (zero-mul (2 ^ j)) in
      omega arith)
  div_in {s} {t} {a} {b} {c} {d} p q K r (sized m e l h) (sized (suc n) g l' h') =
      let k = yes (nat_le (p * d) (a * 2 ^ j)) (nat_le (b * 2 ^ j) (q * c)) (nat_lt q (2 ^ 53)) r in
      rw (div_fin binary64 s m e t n g)
      (round_in (unlike s t) p q (m * up e * down g) (suc n * up g * down e) k.2 (mul-pos (mul-pos (zero-lt-suc n) (up_pos g)) (down_pos e))
      (over (2 ^ j) a b c d (m * up e) (down e) (suc n * up g) (down g) (pow_pos j) (l, h) (l', h') p q
      (ltb→lt 0 c K) (leb→le (p * d) (a * 2 ^ j) k.0) (leb→le (b * 2 ^ j) (q * c) k.1)))

  -- a sum's bounds
  pub add_in :
      {s : Bool} {a b c d : ℕ} {x y : Float} →
      T (nat_lt (b + d) (2 ^ 53)) →
      In s (2 ^ j) a b x →
      In s (2 ^ j) c d y →
      In s (2 ^ j) (a + c) (b + d) (x ⊕ y)
  add_in {s} {a} {b} {c} {d} r (sized m e l h) (sized n g l' h') =
      rw (add_fin binary64 s m e s n g, sum_same binary64 s (m * up e * down g) (n * up g * down e) (down e * down g))
      (round_in s (a + c) (b + d) (m * up e * down g + n * up g * down e) (down e * down g) r (mul-pos (down_pos e) (down_pos g))
      (plus (2 ^ j) a b c d (m * up e) (down e) (n * up g) (down g) (pow_pos j) (l, h) (l', h')))

  -- signs unlike, or a difference: the second is no larger than the first
  pub away_in :
      {a b c d : ℕ} {x y : Float} (p q : ℕ) →
      T (nat_le (p + d) a && nat_le b (q + c) && nat_lt q (2 ^ 53)) →
      In false (2 ^ j) a b x →
      In true (2 ^ j) c d y →
      In false (2 ^ j) p q (x ⊕ y)
  away_in {a} {b} {c} {d} p q r (sized m e l h) (sized n g l' h') =
      let k = yes (nat_le (p + d) a) (nat_le b (q + c)) (nat_lt q (2 ^ 53)) r in
      let f = minus (2 ^ j) a b c d (m * up e) (down e) (n * up g) (down g) (pow_pos j) (l, h) (l', h') p q
      (leb→le (p + d) a k.0) (leb→le b (q + c) k.1) in
      rw (add_fin binary64 false m e true n g, sum_away binary64 false (m * up e * down g) (n * up g * down e) (down e * down g) f.0)
      (round_in false p q (m * up e * down g - n * up g * down e) (down e * down g) k.2 (mul-pos (down_pos e) (down_pos g)) f.1)

  -- a difference's bounds
  pub sub_in :
      {a b c d : ℕ} {x y : Float} (p q : ℕ) →
      T (nat_le (p + d) a && nat_le b (q + c) && nat_lt q (2 ^ 53)) →
      In false (2 ^ j) a b x →
      In false (2 ^ j) c d y →
      In false (2 ^ j) p q (x ⊖ y)
  sub_in {x = x} {y = y} p q r i k = rw (sub_opened binary64 x y) (away_in p q r i (neg_in k))
