-- Loops over the first n elements of an array of m places; the code counts to k, which is n cut to the places. Assumes nothing.
use Rattle.std.specs.Prelude.{ℕ, ◌+◌, ◌≤◌, ◌<◌, min, ◌≡◌, refl, Bool, true, false, List, ◌++◌, map, length, take, get_or, set}
use Rattle.std.proofs.Common.{arith, sym, ap, ◌∙◌, length-set, length-take-le}
use Rattle.lists.specs.Retain.{retain}
use Rattle.lists.specs.Search.{first_of}
use Rattle.lists.specs.Laws.Rest.{cut_start, cut_take}
use Rattle.lists.specs.Rest.{rest}
use Rattle.lists.specs.Laws.Loops.{gather_step, gather_end, retain_take, retain_drop, retain_end, search_here, search_next, search_end}

-- ---- a map into another array: `out[i] = f(l[i])` for i from 0
pub record Gathered {A B : Type 0} (f : A → B) (m n k : ℕ) (l : List A) (out : List B) (i : ℕ) : Type 0 where
  pub cut : k ≡ min n m
  pub places : length l ≡ m
  pub room : length out ≡ m
  pub most : i ≤ k
  pub whole : take i out ++ map f (rest k i l) ≡ map f (take n l)

module _ {A B : Type 0} {f : A → B} {m n k : ℕ} {l : List A} {out : List B} where
  pub gather_starts : k ≡ min n m → length l ≡ m → length out ≡ m → Gathered f m n k l out 0
  gather_starts e h o = record { cut = e; places = h; room = o; most = omega arith; whole = ap (map f) (cut_start k n m l e h) }

  -- one element more is gathered
  pub gather_goes : {i : ℕ} {v : B} (g : Gathered f m n k l out i) (d : A) → i < k → v ≡ f (get_or l i d) → Gathered f m n k l (set out i v) (i + 1)
  gather_goes {i} {v} g d h e =
      record {
        cut = g.cut;
        places = g.places;
        room = length-set out i v ∙ g.room;
        most = omega arith;
        whole = gather_step f k i l out d v h (omega arith) (omega arith) e ∙ g.whole;
      }

  -- all are gathered
  pub gather_ends : {i : ℕ} (g : Gathered f m n k l out i) → k ≤ i → take n out ≡ map f (take n l)
  gather_ends {i} g h =
      let e : i ≡ k = omega arith in
      sym (cut_take k n m out g.cut g.room) ∙ ap (λ (j : ℕ). take j out) (sym e) ∙ sym (gather_end f k i l out h) ∙ g.whole

-- ---- a retain in place: `if p(l[i]) { l[j] = l[i]; j += 1; }` for i from 0; l₀ is the array before
pub record Kept {A : Type 0} (p : A → Bool) (m n k : ℕ) (l₀ l : List A) (i j : ℕ) : Type 0 where
  pub cut : k ≡ min n m
  pub places : length l ≡ m
  pub most : i ≤ k
  pub few : j ≤ i
  pub whole : take j l ++ retain p (rest k i l) ≡ retain p (take n l₀)

module _ {A : Type 0} {p : A → Bool} {m n k : ℕ} {l₀ : List A} where
  pub keep_starts : k ≡ min n m → length l₀ ≡ m → Kept p m n k l₀ l₀ 0 0
  keep_starts e h = record { cut = e; places = h; most = omega arith; few = omega arith; whole = ap (retain p) (cut_start k n m l₀ e h) }

  module _ {l : List A} {i j : ℕ} (g : Kept p m n k l₀ l i j) where
    -- a turn: b is what the test said, l' and j' what the code made of the array and of j
    pub keep_takes :
        (d : A) (b : Bool) (l' : List A) (j' : ℕ) →
        i < k →
        b ≡ p (get_or l i d) →
        b ≡ true →
        l' ≡ set l j (get_or l i d) →
        j' ≡ j + 1 →
        Kept p m n k l₀ l' (i + 1) j'
    keep_takes d b l' j' h v t el ej =
        rw (el, ej)
        (record {
          cut = g.cut;
          places = length-set l j (get_or l i d) ∙ g.places;
          most = omega arith;
          few = omega (arith, g.few);
          whole = retain_take p k i j l d h (omega (arith, g.cut, g.places)) (get_or l i d) g.few refl (sym v ∙ t) ∙ g.whole;
        })

    -- an element that p refuses is passed over
    pub keep_drops : (d : A) (b : Bool) (l' : List A) (j' : ℕ) → i < k → b ≡ p (get_or l i d) → b ≡ false → l' ≡ l → j' ≡ j → Kept p m n k l₀ l' (i + 1) j'
    keep_drops d b l' j' h v t el ej =
        rw (el, ej)
        (record {
          cut = g.cut;
          places = g.places;
          most = omega arith;
          few = omega (arith, g.few);
          whole = retain_drop p k i j l d h (omega (arith, g.cut, g.places)) (sym v ∙ t) ∙ g.whole;
        })

    -- all that p keeps stand at the front
    pub keep_ends : k ≤ i → take j l ≡ retain p (take n l₀)
    keep_ends h = sym (retain_end p k i j l h) ∙ g.whole

    -- as many as there are places, at the most
    pub kept_fit : j ≤ m
    kept_fit = omega (arith, g.cut, g.most, g.few)

    -- as many are kept as the count says
    pub kept_length : j ≡ length (take j l)
    kept_length = sym (length-take-le j l (omega (arith, kept_fit, g.places)))

-- ---- a search: `if p(l[i]) { return f(l[i]); }` for i from 0, and d after it
pub record Searched {A B : Type 0} (p : A → Bool) (f : A → B) (d : B) (m n k : ℕ) (l : List A) (i : ℕ) : Type 0 where
  pub cut : k ≡ min n m
  pub places : length l ≡ m
  pub most : i ≤ k
  pub whole : first_of p f d (rest k i l) ≡ first_of p f d (take n l)

module _ {A B : Type 0} {p : A → Bool} {f : A → B} {d : B} {m n k : ℕ} {l : List A} where
  pub search_starts : k ≡ min n m → length l ≡ m → Searched p f d m n k l 0
  search_starts e h = record { cut = e; places = h; most = omega arith; whole = ap (first_of p f d) (cut_start k n m l e h) }

  module _ {i : ℕ} (g : Searched p f d m n k l i) where
    -- v is what f says of the element at i, and p holds of it
    pub search_finds :
        {v : B} (z : A) →
        i < k →
        p (get_or l i z) ≡ true →
        v ≡ f (get_or l i z) →
        v ≡ first_of p f d (take n l)
    search_finds z h t e = e ∙ sym (search_here p f d k i l z h (omega (arith, g.cut, g.places)) t) ∙ g.whole

    -- p does not hold of it
    pub search_goes : (z : A) → i < k → p (get_or l i z) ≡ false → Searched p f d m n k l (i + 1)
    search_goes z h t =
        record {
          cut = g.cut;
          places = g.places;
          most = omega arith;
          whole = search_next p f d k i l z h (omega (arith, g.cut, g.places)) t ∙ g.whole;
        }

    -- none is left
    pub search_ends : k ≤ i → d ≡ first_of p f d (take n l)
    search_ends h = sym (search_end p f d k i l h) ∙ g.whole
