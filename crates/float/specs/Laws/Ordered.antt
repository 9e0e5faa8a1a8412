-- The order of all doubles, signs, zeros and infinities included, and the operations that keep it. Assumes nothing.
-- A finite value x is (P - Q) / den: `P` is its size where its sign is plus, and 0 otherwise, and `Q` the same for minus. So no law goes by the signs' cases.
use Rattle.std.specs.Prelude.{◌≡◌, ℕ, zero, suc, ◌+◌, ◌-◌, ◌*◌, ◌<◌, ◌≤◌, Bool, true, false, cond, not, ◌&&◌, ◌||◌, T, ◌⊎◌, ℤ, pos, ◌==◌, ◌≢◌, nat_lt}
use Rattle.std.proofs.Math.Path.{refl}
use Rattle.std.proofs.Common.{sym, ap, ◌∙◌, subst, inl, inr, eq-or-lt_of_le, mul_comm, mul_assoc, mul_left_comm, mul_right_comm, add-mul, mul-add, mul-le-mul_right, le_of_mul-le-mul_right, mul-pos, zero-mul, arith, true≢false, eqb→eq, ltb→lt, lt→ltb, nltb→le, lit<}
use Rattle.std.proofs.Math.Dec.{not_T}
use lib.Ieee.{Float, nan, inf, fin, Format, up, down, round, neg, sum, add, sub, mul, div, lt, le, unlike, level, below, of_bits}
use Rattle.std.specs.Float.Ieee.Fits.{down_pos, up_pos, eq→eqb, and_l, and_r}
use Rattle.std.specs.Float.Ieee.Order.{round_mono}
use Rattle.std.specs.Float.Ieee.Scale.{round_same, finite}
use Rattle.float.specs.Rounded.{nought}
use Rattle.float.specs.Laws.Compare.{or_l, or_r}
use Rattle.float.specs.Laws.Opened.{Plus, plus_round, round_neg, mul_fin, div_fin, add_fin, unlike_false}

-- a size on the plus side: 0 for a negative number
abbrev pub P : Bool → ℕ → ℕ
P false a = a
P true a = 0

-- a size on the minus side: 0 for a positive number
abbrev pub Q : Bool → ℕ → ℕ
Q false a = 0
Q true a = a

-- ---- a Bool or
or_e : (a b : Bool) → T (a || b) → T a ⊎ T b
or_e true b t = inl tt
or_e false b t = inr t

and_i : (a b : Bool) → T a → T b → T (a && b)
and_i true true p q = tt
and_i true false p q = q
and_i false b p q = p

-- ---- `le` of two finite values, by their parts
abbrev Le : Bool → ℕ → Bool → ℕ → Type 0
Le s a t b = P s a + Q t b ≤ P t b + Q s a

le_in : (s : Bool) (a : ℕ) (t : Bool) (b : ℕ) → Le s a t b → T (below s a t b || level s a t b)
le_in false a false b h =
    elim (eq-or-lt_of_le (plain h)) [
      | inl e ↦ or_r (nat_lt a b) (a == b && true) (and_i (a == b) true (eq→eqb e) tt)
      | inr l ↦ or_l (nat_lt a b) (a == b && true) (lt→ltb a b l)
    ]
  where
    plain : a + 0 ≤ b + 0 → a ≤ b
    plain h = omega arith
le_in false a true b h = let e : a ≡ b = omega arith in let z : a ≡ 0 = omega arith in and_i (a == b) (a == 0) (eq→eqb e) (eq→eqb z)
le_in true a false b h = go (a + b) refl
  where
    go : (n : ℕ) → a + b ≡ n → T (nat_lt 0 (a + b) || (a == b && a == 0))
    go zero e =
        let x : a ≡ b = omega arith in let z : a ≡ 0 = omega arith in
        or_r (nat_lt 0 (a + b)) (a == b && a == 0) (and_i (a == b) (a == 0) (eq→eqb x) (eq→eqb z))
    go (suc n) e = or_l (nat_lt 0 (a + b)) (a == b && a == 0) (lt→ltb 0 (a + b) (omega arith))
le_in true a true b h =
    elim (eq-or-lt_of_le (plain h)) [
      | inl e ↦ or_r (nat_lt b a) (a == b && true) (and_i (a == b) true (eq→eqb (sym e)) tt)
      | inr l ↦ or_l (nat_lt b a) (a == b && true) (lt→ltb b a l)
    ]
  where
    plain : 0 + b ≤ 0 + a → b ≤ a
    plain h = omega arith

le_out : (s : Bool) (a : ℕ) (t : Bool) (b : ℕ) → T (below s a t b || level s a t b) → Le s a t b
le_out false a false b h =
    elim (or_e (nat_lt a b) (a == b && true) h) [
      | inl l ↦ (let k : a < b = ltb→lt a b l in omega arith)
      | inr e ↦ (let k = eqb→eq a b (and_l (a == b) true e) in omega (arith, k))
    ]
le_out false a true b h = let k : a ≡ b = eqb→eq a b (and_l (a == b) (a == 0) h) in let l : a ≡ 0 = eqb→eq a 0 (and_r (a == b) (a == 0) h) in omega arith
le_out true a false b h = omega arith
le_out true a true b h =
    elim (or_e (nat_lt b a) (a == b && true) h) [
      | inl l ↦ (let k : b < a = ltb→lt b a l in omega arith)
      | inr e ↦ (let k = eqb→eq a b (and_l (a == b) true e) in omega (arith, k))
    ]

le_fin :
    (s : Bool) (m : ℕ) (e : ℤ) (t : Bool) (n : ℕ) (d : ℤ) →
    le (fin s m e) (fin t n d) ≡ (below s (m * up e * down d) t (n * up d * down e) || level s (m * up e * down d) t (n * up d * down e))
unfolding le
le_fin s m e t n d = refl

-- a size times k, in its part
P-mul : (s : Bool) (a k : ℕ) → P s (a * k) ≡ P s a * k
P-mul false a k = refl
P-mul true a k = sym (zero-mul k)

Q-mul : (s : Bool) (a k : ℕ) → Q s (a * k) ≡ Q s a * k
Q-mul false a k = sym (zero-mul k)
Q-mul true a k = refl

-- two fractions (P - Q) / den
abbrev pub Below : ℕ → ℕ → ℕ → ℕ → ℕ → ℕ → Type 0
Below p q c p' q' c' = p * c' + q' * c ≤ p' * c + q * c'

-- the two ways to write it
turn : (s : Bool) (a c : ℕ) (t : Bool) (b d : ℕ) → Le s (a * d) t (b * c) → Below (P s a) (Q s a) c (P t b) (Q t b) d
turn s a c t b d h = let k = P-mul s a d in let l = Q-mul t b c in let m = P-mul t b c in let n = Q-mul s a d in omega arith

turn_back : (s : Bool) (a c : ℕ) (t : Bool) (b d : ℕ) → Below (P s a) (Q s a) c (P t b) (Q t b) d → Le s (a * d) t (b * c)
turn_back s a c t b d h = let k = P-mul s a d in let l = Q-mul t b c in let m = P-mul t b c in let n = Q-mul s a d in omega arith

-- an order of doubles in sizes, by their sides
pub le→parts :
    (s : Bool) (m : ℕ) (e : ℤ) (t : Bool) (n : ℕ) (d : ℤ) → T (le (fin s m e) (fin t n d)) →
    Below (P s (m * up e)) (Q s (m * up e)) (down e) (P t (n * up d)) (Q t (n * up d)) (down d)
le→parts s m e t n d h = turn s (m * up e) (down e) t (n * up d) (down d) (le_out s (m * up e * down d) t (n * up d * down e) (subst T (le_fin s m e t n d) h))

-- and back
pub parts→le :
    (s : Bool) (m : ℕ) (e : ℤ) (t : Bool) (n : ℕ) (d : ℤ) →
    Below (P s (m * up e)) (Q s (m * up e)) (down e) (P t (n * up d)) (Q t (n * up d)) (down d) →
    T (le (fin s m e) (fin t n d))
parts→le s m e t n d h =
    subst T (sym (le_fin s m e t n d)) (le_in s (m * up e * down d) t (n * up d * down e) (turn_back s (m * up e) (down e) t (n * up d) (down d) h))

-- ---- the order
below_trans : (p q c p' q' c' r t k : ℕ) → 0 < c' → Below p q c p' q' c' → Below p' q' c' r t k → Below p q c r t k
below_trans p q c p' q' c' r t k C h l =
    let a = mul-le-mul_right k h in
    let b = mul-le-mul_right c l in
    le_of_mul-le-mul_right {k = c'} (
    let a' : p * c' * k + q' * c * k ≤ p' * c * k + q * c' * k = simp add-mul at a in
    let b' : p' * k * c + t * c' * c ≤ r * c' * c + q' * k * c = simp add-mul at b in
    let e1 = mul_right_comm p c' k in
    let e2 = mul_right_comm q c' k in
    let e3 = mul_right_comm p' c k in
    let e4 = mul_right_comm q' c k in
    let e5 = mul_right_comm t c' c in
    let e6 = mul_right_comm r c' c in
    let goal : p * k * c' + t * c * c' ≤ r * c * c' + q * k * c' = omega arith in
    simp add-mul goal) C

-- for all values: a NaN is in no order
pub le_trans_all : (x y z : Float) → T (le x y) → T (le y z) → T (le x z)
unfolding le
le_trans_all nan y z h k = absurd h
le_trans_all (inf s) nan z h k = absurd h
le_trans_all (inf s) (inf t) nan h k = absurd k
le_trans_all (inf true) (inf t) (inf true) h k = tt
le_trans_all (inf true) (inf t) (inf false) h k = tt
le_trans_all (inf false) (inf true) (inf u) h k = absurd h
le_trans_all (inf false) (inf false) (inf u) h k = k
le_trans_all (inf true) (inf t) (fin u l g) h k = tt
le_trans_all (inf false) (inf true) (fin u l g) h k = absurd h
le_trans_all (inf false) (inf false) (fin u l g) h k = k
le_trans_all (inf true) (fin t n d) nan h k = absurd k
le_trans_all (inf true) (fin t n d) (inf true) h k = tt
le_trans_all (inf true) (fin t n d) (inf false) h k = tt
le_trans_all (inf false) (fin t n d) z h k = absurd h
le_trans_all (inf true) (fin t n d) (fin u l g) h k = tt
le_trans_all (fin s m e) nan z h k = absurd h
le_trans_all (fin s m e) (inf true) z h k = absurd h
le_trans_all (fin s m e) (inf false) nan h k = absurd k
le_trans_all (fin s m e) (inf false) (inf true) h k = absurd k
le_trans_all (fin s m e) (inf false) (inf false) h k = tt
le_trans_all (fin s m e) (inf false) (fin u l g) h k = absurd k
le_trans_all (fin s m e) (fin t n d) nan h k = absurd k
le_trans_all (fin s m e) (fin t n d) (inf true) h k = absurd k
le_trans_all (fin s m e) (fin t n d) (inf false) h k = tt
le_trans_all (fin s m e) (fin t n d) (fin u l g) h k =
    parts→le s m e u l g
    (below_trans (P s (m * up e)) (Q s (m * up e)) (down e) (P t (n * up d)) (Q t (n * up d)) (down d) (P u (l * up g)) (Q u (l * up g)) (down g) (down_pos d)
    (le→parts s m e t n d h) (le→parts t n d u l g k))

-- every number is at most itself
pub le_refl_all : (x : Float) → (x ≢ nan) → T (le x x)
unfolding le
le_refl_all nan h = absurd (h refl)
le_refl_all (inf true) h = tt
le_refl_all (inf false) h = tt
le_refl_all (fin s m e) h = parts→le s m e s m e (omega arith)

-- a minus on both sides
minus_parts : (s : Bool) (a : ℕ) → (P (not s) a ≡ Q s a) × (Q (not s) a ≡ P s a)
minus_parts true a = (refl, refl)
minus_parts false a = (refl, refl)

swap : (p q c p' q' c' u v u' v' : ℕ) → u ≡ q → v ≡ p → u' ≡ q' → v' ≡ p' → Below p q c p' q' c' → Below u' v' c' u v c
swap p q c p' q' c' u v u' v' a b d e h = rw (a, b, d, e) (omega arith)

-- negation turns the order round
pub le_neg : (x y : Float) → T (le x y) → T (le (neg y) (neg x))
unfolding le neg
le_neg nan y h = absurd h
le_neg (inf s) nan h = absurd h
le_neg (inf true) (inf true) h = tt
le_neg (inf true) (inf false) h = tt
le_neg (inf false) (inf true) h = absurd h
le_neg (inf false) (inf false) h = tt
le_neg (inf true) (fin t n d) h = tt
le_neg (inf false) (fin t n d) h = absurd h
le_neg (fin s m e) nan h = absurd h
le_neg (fin s m e) (inf true) h = absurd h
le_neg (fin s m e) (inf false) h = tt
le_neg (fin s m e) (fin t n d) h =
    let a = minus_parts s (m * up e) in
    let b = minus_parts t (n * up d) in
    parts→le (not t) n d (not s) m e
    (swap (P s (m * up e)) (Q s (m * up e)) (down e) (P t (n * up d)) (Q t (n * up d)) (down d) (P (not s) (m * up e)) (Q (not s) (m * up e))
    (P (not t) (n * up d)) (Q (not t) (n * up d))
    a.0 a.1 b.0 b.1 (le→parts s m e t n d h))

-- ---- rounding keeps the order, with signs
pub zero_round : (f : Format) (s : Bool) (c : ℕ) → 0 < c → round f s 0 c ≡ fin s 0 (pos 0)
zero_round f s c C = round_same f s 0 c 0 1 C (lit< tt) (omega arith) ∙ at f s
  where
    at : (f : Format) (s : Bool) → round f s 0 1 ≡ fin s 0 (pos 0)
    at lib.Ieee.binary32 s = unfold round in refl
    at lib.Ieee.binary64 s = unfold round in refl

-- what has the sign minus is at most what has the sign plus
pub minus_plus : (x y : Float) → Plus x → Plus y → T (le (neg x) y)
unfolding le neg
minus_plus nan y p q = absurd p
minus_plus (inf true) y p q = absurd (true≢false p)
minus_plus (inf false) nan p q = absurd q
minus_plus (inf false) (inf true) p q = absurd (true≢false q)
minus_plus (inf false) (inf false) p q = tt
minus_plus (inf false) (fin t n d) p q = tt
minus_plus (fin true m e) y p q = absurd (true≢false p)
minus_plus (fin false m e) nan p q = absurd q
minus_plus (fin false m e) (inf true) p q = absurd (true≢false q)
minus_plus (fin false m e) (inf false) p q = tt
minus_plus (fin false m e) (fin true n d) p q = absurd (true≢false q)
minus_plus (fin false m e) (fin false n d) p q = parts→le true m e false n d (omega arith)

none : (a d : ℕ) → 0 < d → a * d ≡ 0 → a ≡ 0
none zero d D h = refl
none (suc a) d D h = absurd (let k : 0 < suc a * d = mul-pos (omega arith) D in omega arith)

zeros : (f : Format) (a c b d : ℕ) → 0 < c → 0 < d → a ≡ 0 → b ≡ 0 → T (le (round f false a c) (round f true b d))
zeros f a c b d C D x y = rw (x, y, zero_round f false c C, zero_round f true d D) (unfold le in tt)

-- rounding keeps the order, sign and all
pub round_mono_signed :
    (f : Format) (s : Bool) (a c : ℕ) (t : Bool) (b d : ℕ) →
    0 < c →
    0 < d →
    Below (P s a) (Q s a) c (P t b) (Q t b) d →
    T (le (round f s a c) (round f t b d))
round_mono_signed f false a c false b d C D h = round_mono f a c b d C D (omega arith)
round_mono_signed f false a c true b d C D h = zeros f a c b d C D (none a d D (omega arith)) (none b c C (omega arith))
round_mono_signed f true a c false b d C D h = rw (round_neg f a c) (minus_plus (round f false a c) (round f false b d) (plus_round f a c) (plus_round f b d))
round_mono_signed f true a c true b d C D h =
    rw (round_neg f a c, round_neg f b d) (le_neg (round f false b d) (round f false a c) (round_mono f b d a c D C (omega arith)))

-- ---- the sum
record SumIs (f : Format) (s : Bool) (a : ℕ) (t : Bool) (b c : ℕ) : Type 0 where
  sign : Bool
  size : ℕ
  is : sum f s a t b c ≡ round f sign size c
  parts : P s a + P t b + Q sign size ≡ Q s a + Q t b + P sign size

sum_is : (f : Format) (s : Bool) (a : ℕ) (t : Bool) (b c : ℕ) → SumIs f s a t b c
unfolding sum
sum_is f true a true b c = record { sign = true; size = a + b; is = refl; parts = omega arith }
sum_is f false a false b c = record { sign = false; size = a + b; is = refl; parts = omega arith }
sum_is f true a false b c = go (nat_lt a b) (nat_lt b a) (ltb→lt a b) (nltb→le a b) (nltb→le b a) refl refl
  where
    go : (x y : Bool) → (T x → a < b) → (T (not x) → b ≤ a) → (T (not y) → a ≤ b) → nat_lt a b ≡ x → nat_lt b a ≡ y → SumIs f true a false b c
    go true y p q r e g =
        let h : a < b = p tt in record {
          sign = false;
          size = b - a;
          is = ap
              (λ (v : Bool). cond v (round f false (b - a) c) (round f (true && nat_lt b a) (a - b) c)) e;
          parts = omega arith;
        }
    go false true p q r e g =
        let h : b ≤ a = q tt in record {
          sign = true;
          size = a - b;
          is = ap
              (λ (v : Bool). cond v (round f false (b - a) c) (round f (true && nat_lt b a) (a - b) c)) e
              ∙ ap (λ (v : Bool). round f v (a - b) c) g;
          parts = omega arith;
        }
    go false false p q r e g =
        let h : b ≤ a = q tt in let k : a ≤ b = r tt in
        record {
          sign = false;
          size = a - b;
          is = ap (λ (v : Bool). cond v (round f false (b - a) c) (round f (true && nat_lt b a) (a - b) c)) e
              ∙ ap (λ (v : Bool). round f v (a - b) c) g;
          parts = omega arith;
        }
sum_is f false a true b c = go (nat_lt a b) (ltb→lt a b) (nltb→le a b) refl
  where
    go : (x : Bool) → (T x → a < b) → (T (not x) → b ≤ a) → nat_lt a b ≡ x → SumIs f false a true b c
    go true p q e =
        let h : a < b = p tt in record {
          sign = true;
          size = b - a;
          is = ap
              (λ (v : Bool). cond v (round f true (b - a) c) (round f false (a - b) c)) e;
          parts = omega arith;
        }
    go false p q e =
        let h : b ≤ a = q tt in record {
          sign = false;
          size = a - b;
          is = ap
              (λ (v : Bool). cond v (round f true (b - a) c) (round f false (a - b) c)) e;
          parts = omega arith;
        }

add_parts : (p q c p' q' c' r t k r' t' k' X Y X₂ Y₂ : ℕ) → Below p q c p' q' c' → Below r t k r' t' k'
    → p * k + r * c + Y ≡ q * k + t * c + X → p' * k' + r' * c' + Y₂ ≡ q' * k' + t' * c' + X₂ → Below X Y (c * k) X₂ Y₂ (c' * k')
add_parts p q c p' q' c' r t k r' t' k' X Y X₂ Y₂ h l E E' =
    let a = simp (add-mul, mul_assoc, mul_comm, mul_left_comm) at (mul-le-mul_right (k * k') h) in
    let b = simp (add-mul, mul_assoc, mul_comm, mul_left_comm) at (mul-le-mul_right (c * c') l) in
    let e = simp (add-mul, mul_assoc, mul_comm, mul_left_comm) at (ap (λ (z : ℕ). z * (c' * k')) E) in
    let g = simp (add-mul, mul_assoc, mul_comm, mul_left_comm) at (ap (λ (z : ℕ). z * (c * k)) E') in
    simp (mul_assoc, mul_comm, mul_left_comm) (omega arith)

-- ---- finite values, as a view
pub data Finite : Float → Type 0 where
  is_fin : (s : Bool) (m : ℕ) (e : ℤ) → Finite (fin s m e)

-- a finite double has digits
pub finite_view : (x : Float) → T (finite x) → Finite x
finite_view nan t = absurd t
finite_view (inf s) t = absurd t
finite_view (fin s m e) t = is_fin s m e

-- what a sum's parts are, in the addends'
sum_parts :
    (f : Format) (s : Bool) (a c : ℕ) (t : Bool) (b d : ℕ) (z : SumIs f s (a * d) t (b * c) (c * d)) →
    P s a * d + P t b * c + Q z.sign z.size ≡ Q s a * d + Q t b * c + P z.sign z.size
sum_parts f s a c t b d z = let h = z.parts in let k = P-mul s a d in let l = P-mul t b c in let m = Q-mul s a d in let n = Q-mul t b c in omega arith

-- sums grow with both
pub add_mono : (f : Format) {x x' y y' : Float} → Finite x → Finite x' → Finite y → Finite y' → T (le x x') → T (le y y') → T (le (add f x y) (add f x' y'))
add_mono f (is_fin s m e) (is_fin s' m' e') (is_fin t n d) (is_fin t' n' d') h k =
    let z = sum_is f s (m * up e * down d) t (n * up d * down e) (down e * down d) in
    let z' = sum_is f s' (m' * up e' * down d') t' (n' * up d' * down e') (down e' * down d') in
    rw (add_fin f s m e t n d, add_fin f s' m' e' t' n' d', z.is, z'.is)
    (round_mono_signed f z.sign z.size (down e * down d) z'.sign z'.size (down e' * down d') (mul-pos (down_pos e) (down_pos d))
    (mul-pos (down_pos e') (down_pos d'))
    (add_parts (P s (m * up e)) (Q s (m * up e)) (down e) (P s' (m' * up e')) (Q s' (m' * up e')) (down e')
    (P t (n * up d)) (Q t (n * up d)) (down d) (P t' (n' * up d')) (Q t' (n' * up d')) (down d')
    (P z.sign z.size) (Q z.sign z.size) (P z'.sign z'.size) (Q z'.sign z'.size)
    (le→parts s m e s' m' e' h) (le→parts t n d t' n' d' k)
    (sum_parts f s (m * up e) (down e) t (n * up d) (down d) z) (sum_parts f s' (m' * up e') (down e') t' (n' * up d') (down d') z')))

neg_finite : {x : Float} → Finite x → Finite (neg x)
unfolding neg
neg_finite (is_fin s m e) = is_fin (not s) m e

-- a difference is a sum
pub sub_opened : (f : Format) (x y : Float) → sub f x y ≡ add f x (neg y)
unfolding sub
sub_opened f x y = refl

-- differences grow with the first and fall with the second
pub sub_mono : (f : Format) {x x' y y' : Float} → Finite x → Finite x' → Finite y → Finite y' → T (le x x') → T (le y' y) → T (le (sub f x y) (sub f x' y'))
sub_mono f {x} {x'} {y} {y'} a b c d h k = rw (sub_opened f x y, sub_opened f x' y') (add_mono f a b (neg_finite c) (neg_finite d) h (le_neg y' y k))

-- ---- the product with a y that is not below 0, and the quotient by a y above 0
scale_parts : (p q c p' q' c' B k : ℕ) → Below p q c p' q' c' → Below (p * B) (q * B) (c * k) (p' * B) (q' * B) (c' * k)
scale_parts p q c p' q' c' B k h =
    simp (mul_comm, mul_left_comm, mul_assoc) (simp (mul-add, mul_comm, mul_left_comm, mul_assoc) at (mul-le-mul_right (B * k) h))

-- zeros are level, whatever their signs
pub zero_le_zero : (s t : Bool) → T (le (fin s 0 (pos 0)) (fin t 0 (pos 0)))
unfolding le
zero_le_zero true true = tt
zero_le_zero true false = tt
zero_le_zero false true = tt
zero_le_zero false false = tt

-- y is -0
by_minus_zero : (f : Format) (u : Bool) (a c : ℕ) (u' : Bool) (a' c' b : ℕ) → 0 < c → 0 < c' → b ≡ 0 → T (le (round f u (a * b) c) (round f u' (a' * b) c'))
by_minus_zero f u a c u' a' c' b C C' e =
    let x : a * b ≡ 0 = rw e (omega arith) in let y : a' * b ≡ 0 = rw e (omega arith) in
    rw (x, y, zero_round f u c C, zero_round f u' c' C') (zero_le_zero u u')

minus_zero : (n : ℕ) (d : ℤ) → T (le (fin false 0 (pos 0)) (fin true n d)) → n * up d ≡ 0
minus_zero n d k = let h = le→parts false 0 (pos 0) true n d k in omega arith

-- products with what is at least 0 grow with the other
pub mul_mono : (f : Format) {x x' y : Float} → Finite x → Finite x' → Finite y → T (le x x') → T (le nought y) → T (le (mul f x y) (mul f x' y))
unfolding of_bits
mul_mono f (is_fin s m e) (is_fin s' m' e') (is_fin false n d) h k =
    rw (mul_fin f s m e false n d, mul_fin f s' m' e' false n d, unlike_false s, unlike_false s')
    (round_mono_signed f s (m * up e * (n * up d)) (down e * down d) s' (m' * up e' * (n * up d)) (down e' * down d)
    (mul-pos (down_pos e) (down_pos d)) (mul-pos (down_pos e') (down_pos d))
    (rw (P-mul s (m * up e) (n * up d), Q-mul s (m * up e) (n * up d), P-mul s' (m' * up e') (n * up d), Q-mul s' (m' * up e') (n * up d))
    (scale_parts (P s (m * up e)) (Q s (m * up e)) (down e) (P s' (m' * up e')) (Q s' (m' * up e')) (down e') (n * up d) (down d) (le→parts s m e s' m' e' h))))
mul_mono f (is_fin s m e) (is_fin s' m' e') (is_fin true n d) h k =
    rw (mul_fin f s m e true n d, mul_fin f s' m' e' true n d)
    (by_minus_zero f (unlike s true) (m * up e) (down e * down d) (unlike s' true) (m' * up e') (down e' * down d) (n * up d)
    (mul-pos (down_pos e) (down_pos d)) (mul-pos (down_pos e') (down_pos d)) (minus_zero n d k))

above_minus : (n : ℕ) (d : ℤ) → T (lt (fin false 0 (pos 0)) (fin true n d)) → ⊥
unfolding lt
above_minus n d k = k

above_zero : (d : ℤ) → T (lt (fin false 0 (pos 0)) (fin false 0 d)) → ⊥
unfolding lt
above_zero d k = let h : 0 * down d < 0 * up d * 1 = ltb→lt (0 * down d) (0 * up d * 1) k in omega arith

-- quotients by what is above 0 grow with the first
pub div_mono : (f : Format) {x x' y : Float} → Finite x → Finite x' → Finite y → T (le x x') → T (lt nought y) → T (le (div f x y) (div f x' y))
unfolding of_bits
div_mono f (is_fin s m e) (is_fin s' m' e') (is_fin true n d) h k = absurd (above_minus n d k)
div_mono f (is_fin s m e) (is_fin s' m' e') (is_fin false zero d) h k = absurd (above_zero d k)
div_mono f (is_fin s m e) (is_fin s' m' e') (is_fin false (suc n) d) h k =
    rw (div_fin f s m e false n d, div_fin f s' m' e' false n d, unlike_false s, unlike_false s')
    (round_mono_signed f s (m * up e * down d) (suc n * up d * down e) s' (m' * up e' * down d) (suc n * up d * down e')
    (mul-pos (mul-pos (omega arith) (up_pos d)) (down_pos e)) (mul-pos (mul-pos (omega arith) (up_pos d)) (down_pos e'))
    (rw (
      P-mul s (m * up e) (down d),
      Q-mul s (m * up e) (down d),
      P-mul s' (m' * up e') (down d),
      Q-mul s' (m' * up e') (down d),
      mul_comm
          (suc n * up d) (down e),
      mul_comm (suc n * up d) (down e'),
    )
    (scale_parts (P s (m * up e)) (Q s (m * up e)) (down e) (P s' (m' * up e')) (Q s' (m' * up e')) (down e') (down d) (suc n * up d)
    (le→parts s m e s' m' e' h))))

-- of two values that are no NaN, one is not above the other
no_parts : (s : Bool) (a : ℕ) (t : Bool) (b : ℕ) → T (not (below s a t b)) → Le t b s a
no_parts false a false b h = let k : b ≤ a = nltb→le a b h in omega arith
no_parts false a true b h = omega arith
no_parts true a false b h = let k : a + b ≤ 0 = nltb→le 0 (a + b) h in omega arith
no_parts true a true b h = let k : a ≤ b = nltb→le b a h in omega arith

lt_fin : (s : Bool) (m : ℕ) (e : ℤ) (t : Bool) (n : ℕ) (d : ℤ) → lt (fin s m e) (fin t n d) ≡ below s (m * up e * down d) t (n * up d * down e)
unfolding lt
lt_fin s m e t n d = refl

-- of finite ones, what is not below is at least
pub le_of_not_lt : (x y : Float) → Finite x → Finite y → T (not (lt x y)) → T (le y x)
le_of_not_lt x y (is_fin s m e) (is_fin t n d) h =
    subst T (sym (le_fin t n d s m e)) (le_in t (n * up d * down e) s (m * up e * down d)
    (no_parts s (m * up e * down d) t (n * up d * down e) (subst (λ (b : Bool). T (not b)) (lt_fin s m e t n d) h)))

none_below : (s : Bool) (a : ℕ) (t : Bool) (b : ℕ) → Le s a t b → T (not (below t b s a))
none_below false a false b h = not_T (nat_lt b a) (λ t. let k : b < a = ltb→lt b a t in omega arith)
none_below false a true b h = not_T (nat_lt 0 (b + a)) (λ t. let k : 0 < b + a = ltb→lt 0 (b + a) t in omega arith)
none_below true a false b h = tt
none_below true a true b h = not_T (nat_lt a b) (λ t. let k : a < b = ltb→lt a b t in omega arith)

-- of all doubles, what is at least is not below
pub not_below : (x y : Float) → T (le x y) → T (not (lt y x))
unfolding le lt
not_below nan y h = absurd h
not_below (inf s) nan h = tt
not_below (inf true) (inf true) h = tt
not_below (inf true) (inf false) h = tt
not_below (inf false) (inf true) h = absurd h
not_below (inf false) (inf false) h = tt
not_below (inf true) (fin t n d) h = tt
not_below (inf false) (fin t n d) h = absurd h
not_below (fin s m e) nan h = tt
not_below (fin s m e) (inf true) h = absurd h
not_below (fin s m e) (inf false) h = tt
not_below (fin s m e) (fin t n d) h = none_below s (m * up e * down d) t (n * up d * down e) (le_out s (m * up e * down d) t (n * up d * down e) h)

-- ---- what is above 0, as a view
pub data Positive : Float → Type 0 where
  pos_inf : Positive (inf false)
  pos_fin : (m : ℕ) (e : ℤ) → Positive (fin false (suc m) e)

-- what is above something with the sign plus is above 0
pub above_plus : (x y : Float) → Plus x → T (lt x y) → Positive y
unfolding lt
above_plus nan y p h = absurd p
above_plus (inf true) y p h = absurd (true≢false p)
above_plus (inf false) nan p h = absurd h
above_plus (inf false) (inf t) p h = absurd h
above_plus (inf false) (fin t n d) p h = absurd h
above_plus (fin true m e) y p h = absurd (true≢false p)
above_plus (fin false m e) nan p h = absurd h
above_plus (fin false m e) (inf true) p h = absurd h
above_plus (fin false m e) (inf false) p h = pos_inf
above_plus (fin false m e) (fin true n d) p h = absurd h
above_plus (fin false m e) (fin false zero d) p h =
    absurd (let k : m * up e * down d < 0 * up d * down e = ltb→lt (m * up e * down d) (0 * up d * down e) h in omega arith)
above_plus (fin false m e) (fin false (suc n) d) p h = pos_fin n d
