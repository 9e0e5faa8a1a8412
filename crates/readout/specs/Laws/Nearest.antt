-- The nearest by distances that were measured before is the nearest of what was measured, and stands at the place found. Assumes nothing.
use Prim.Native.Nat.{ℕ, suc, ◌+◌, ◌<◌}
use Rattle.std.proofs.Math.Path.{◌≡◌, refl, ap, subst}
use Rattle.std.proofs.Common.{sym, ◌∙◌}
use Rattle.std.specs.Prelude.{Bool, true, false, cond, Float, length, Some, None}
use mathlib.Core.List.{List, [], ◌∷◌, map}
use Rattle.std.proofs.Math.Option.{Option, none, some}
use native.Mathlib.Omega.{arith}
use Rattle.std.specs.Float.Ieee.{lt}
use Rattle.std.proofs.Math.ListN.{get_or}
use Rattle.model.specs.Nearest.{Near, near_at, nearer, nearest_from, nearest_of}
use Rattle.std.specs.Prelude as prelude
use Rattle.readout.specs.declared.distances.Found.{Found}
use Rattle.readout.specs.Found.{found_of, nearest_among}

-- one of a list, with its element sent through f
abbrev sent : {A B : Type 0} → (A → B) → Near A → Near B
sent f b = record { place = b.place; micro = f b.micro; dist = b.dist }

module _ {A B : Type 0} (distance : B → Float) (f : A → B) where
  -- the distance of an element sent through f
  abbrev through : A → Float
  through a = distance (f a)

  sent_one : (t : Bool) (new best : Near A) → cond t (sent f new) (sent f best) ≡ sent f (cond t new best)
  sent_one true new best = refl
  sent_one false new best = refl

  from_map : (best : Near A) (i : ℕ) (l : List A) → nearest_from distance (sent f best) i (map f l) ≡ sent f (nearest_from through best i l)
  unfolding nearest_from
  from_map best i [] = refl
  from_map best i (a ∷ l) =
      ap (λ (b : Near B). nearest_from distance b (i + 1) (map f l)) (sent_one (lt (through a) best.dist) (near_at through i a) best)
      ∙ from_map (nearer through best (near_at through i a)) (i + 1) l

  -- the nearest of a list sent through f is found where the nearest of the list is
  pub found_map : (l : List A) → found_of (nearest_of distance (map f l)) ≡ found_of (nearest_of (λ (a : A). distance (f a)) l)
  unfolding nearest_of
  found_map [] = refl
  found_map (a ∷ l) = ap (λ (b : Near B). Some (record { place = b.place; dist = b.dist })) (from_map (near_at through 0 a) 1 l)

module _ {A : Type 0} (distance : A → Float) where
  pub nearest_measured : (l : List A) (distances : List Float) → distances ≡ map distance l → nearest_among distances ≡ found_of (nearest_of distance l)
  unfolding nearest_among
  nearest_measured l distances e =
      ap (λ (ds : List Float). found_of (nearest_of (λ (d : Float). d) ds)) e ∙ found_map (λ (d : Float). d) distance l

  -- ---- what is found is the element at its place
  abbrev StandsIn : List A → Near A → Type 0
  StandsIn l b = (b.place < length l) × ((z : A) → get_or l b.place z ≡ b.micro)

  nearer_stands : (t : Bool) (best new : Near A) (l : List A) → StandsIn l best → StandsIn l new → StandsIn l (cond t new best)
  nearer_stands true best new l h k = k
  nearer_stands false best new l h k = h

  from_stands :
      (best : Near A) (i : ℕ) (ms l : List A) →
      StandsIn l best →
      i + length ms ≡ length l →
      ((q : ℕ) → q < length ms → (z : A) → get_or l (i + q) z ≡ get_or ms q z) →
      StandsIn l (nearest_from distance best i ms)
  unfolding nearest_from
  from_stands best i [] l h e f = h
  from_stands best i (m ∷ ms) l h e f =
      from_stands (nearer distance best (near_at distance i m)) (i + 1) ms l
      (nearer_stands (lt (distance m) best.dist) best (near_at distance i m) l h
      (omega arith, λ z. ap (λ (k : ℕ). get_or l k z) (let u : i ≡ i + 0 = omega arith in u) ∙ f 0 (omega arith) z))
      (omega arith)
      (λ q hq z. ap (λ (k : ℕ). get_or l k z) (let u : i + 1 + q ≡ i + suc q = omega arith in u) ∙ f (suc q) (omega arith) z)

  some_is : {b c : Near A} → some b ≡ some c → b ≡ c
  some_is e = cc

  nearest_stands : (l : List A) (b : Near A) → nearest_of distance l ≡ some b → StandsIn l b
  unfolding nearest_of
  nearest_stands [] b e = let z : ◌≡◌ {A = ℕ} 0 1 = cc in absurd (omega arith)
  nearest_stands (m ∷ ms) b e =
      subst (StandsIn (m ∷ ms)) (some_is e)
      (from_stands (near_at distance 0 m) 1 ms (m ∷ ms) (omega arith, λ z. refl) (omega arith)
      (λ q hq z. ap (λ (k : ℕ). get_or (m ∷ ms) k z) (let u : 1 + q ≡ suc q = omega arith in u)))

  -- what an option has, or what stands for none
  abbrev found_or : Found → prelude.Option Found → Found
  found_or f None = f
  found_or f (Some g) = g

  found_some :
      (o : Option (Near A)) (p : ℕ) (d : Float) → found_of o ≡ Some (record { place = p; dist = d }) →
      (m : A) × (o ≡ some (record { place = p; micro = m; dist = d }))
  found_some none p d e = let z : ◌≡◌ {A = ℕ} 0 1 = cc in absurd (omega arith)
  found_some (some b) p d e =
      let f : Found = record { place = p; dist = d } in
      let u : b.place ≡ p = ap (λ (q : prelude.Option Found). (found_or f q).place) e in
      let v : b.dist ≡ d = ap (λ (q : prelude.Option Found). (found_or f q).dist) e in
      (b.micro, rw (u, v))

  -- the nearest of the list stands at that place and distance
  pub record FoundAt (l : List A) (place : ℕ) (dist : Float) : Type 0 where
    pub low : place < length l
    pub is : (z : A) → nearest_of distance l ≡ some (record { place = place; micro = get_or l place z; dist = dist })

  -- a place found is the nearest one's
  pub found_at :
      (l : List A) (place : ℕ) (dist : Float) → found_of (nearest_of distance l) ≡ Some (record { place = place; dist = dist }) →
      FoundAt l place dist
  found_at l place dist e =
      let w = found_some (nearest_of distance l) place dist e in
      let q = nearest_stands l (record { place = place; micro = w.0; dist = dist }) w.1 in
      record { low = q.0; is = λ z. w.1 ∙ ap (λ (m : A). some (record { place = place; micro = m; dist = dist })) (sym (q.1 z)) }

  -- nothing is found where there is none
  pub found_nothing : (l : List A) → found_of (nearest_of distance l) ≡ None → nearest_of distance l ≡ none
  found_nothing l e = go (nearest_of distance l) e
    where
      go : (o : Option (Near A)) → found_of o ≡ None → o ≡ none
      go none e = refl
      go (some b) e = let z : ◌≡◌ {A = ℕ} 0 1 = cc in absurd (omega arith)

-- a place found is one of the list
pub nearest_low : (l : List Float) (place : ℕ) (dist : Float) → nearest_among l ≡ Some (record { place = place; dist = dist }) → place < length l
unfolding nearest_among
nearest_low l place dist e = (found_at (λ (d : Float). d) l place dist e).low
