-- The nearest as a loop finds it. Assumes nothing.
use Rattle.std.specs.Prelude.{ℕ, ◌+◌, ◌<◌, ◌≤◌, ◌≡◌, refl, Bool, true, false, cond, List, [], ◌∷◌, length, drop, Float, Some, None, get_or}
use Rattle.std.proofs.Common.{ap, ap₂, sym, ◌∙◌, arith, add-one}
use Rattle.std.proofs.Math.Seq.{drop-cons}
use Rattle.std.proofs.Math.ListN.{drop_of_length-le}
use Rattle.std.specs.Float.Ieee.{lt}
use Rattle.model.specs.Nearest.{Near, near_at, nearer, nearest_from, nearest_of}
use Rattle.readout.specs.declared.distances.Found.{Found}
use Rattle.readout.specs.Found.{found_of}

module _ {A : Type 0} (d : A → Float) where
  abbrev here : ℕ → A → Found
  here i a = record { place = i; dist = d a }

  -- the nearest so far is f; what is left starts at place i
  unfoldable pub found_from : Found → ℕ → List A → Found
  found_from f i [] = f
  found_from f i (a ∷ rest) = found_from (cond (lt (d a) f.dist) (here i a) f) (i + 1) rest

  abbrev found_in : Near A → Found
  found_in b = record { place = b.place; dist = b.dist }

  choice : (t : Bool) (b : Near A) (i : ℕ) (a : A) → found_in (cond t (near_at d i a) b) ≡ cond t (here i a) (found_in b)
  choice true b i a = refl
  choice false b i a = refl

  found_nearest : (b : Near A) (i : ℕ) (l : List A) → found_in (nearest_from d b i l) ≡ found_from (found_in b) i l
  unfolding nearest_from found_from
  found_nearest b i [] = refl
  found_nearest b i (a ∷ l) =
      found_nearest (nearer d b (near_at d i a)) (i + 1) l ∙ ap (λ (f : Found). found_from f (i + 1) l) (choice (lt (d a) b.dist) b i a)

  pub found_start : (a : A) (l : List A) → Some (found_from (here 0 a) 1 l) ≡ found_of (nearest_of d (a ∷ l))
  unfolding nearest_of
  found_start a l = ap Some (sym (found_nearest (near_at d 0 a) 1 l))

  pub found_step : (f : Found) (i : ℕ) (a : A) (l : List A) → found_from f i (a ∷ l) ≡ found_from (cond (lt (d a) f.dist) (here i a) f) (i + 1) l
  unfolding found_from
  found_step f i a l = refl

  -- ---- the loop over what stands behind the first
  pub found_none : (l : List A) → length l ≡ 0 → None ≡ found_of (nearest_of d l)
  unfolding nearest_of
  found_none [] h = refl
  found_none (a ∷ l) h = absurd (omega arith)

  pub found_first :
      (l : List A) (a : A) (rest : List A) (v : Float) → l ≡ a ∷ rest → v ≡ d a →
      Some (found_from (record { place = 0; dist = v }) 1 rest) ≡ found_of (nearest_of d l)
  found_first l a rest v e ev = rw (e, ev) (found_start a rest)

  module _ (rest : List A) (f : Found) (i : ℕ) where
    pub found_next :
        (a : A) (v : Float) (t : Bool) → i < length rest → a ≡ get_or rest i a → v ≡ d a → lt v f.dist ≡ t →
        found_from (cond t (record { place = i + 1; dist = v }) f) (i + 1 + 1) (drop (i + 1) rest) ≡ found_from f (i + 1) (drop i rest)
    found_next a v t h ea ev et =
        rw (← et, ev)
        (sym
        (ap (found_from f (i + 1)) (drop-cons rest i a h ∙ ap₂ (λ (b : A) (k : ℕ). b ∷ drop k rest) (sym ea) (sym (add-one i)))
        ∙ found_step f (i + 1) a (drop (i + 1) rest)))

    pub found_end : length rest ≤ i → found_from f (i + 1) (drop i rest) ≡ f
    unfolding found_from
    found_end h = rw (drop_of_length-le rest h)
