-- An insert into the arrays, seen through the view. Assumes nothing.
use Prim.Native.Nat.{ℕ}
use native.Mathlib.Omega.{arith}
use mathlib.Core.Path.{◌≡◌, refl, sym, ap, ◌∙◌, subst}
use mathlib.Core.Bool.{Bool, true, false, true≢false, cond}
use mathlib.Core.List.{List, [], ◌∷◌}
use lib.Ieee.{Float, lt}
use lib.ListN.{length, take}
use Rattle.std.proofs.lemmas.List.{take_all}
use Rattle.std.specs.Prelude.{Result, Ok, Err, ◌==◌}
use Rattle.std.specs.Result.{is_ok}
use Rattle.model.specs.Answers.{is_done, Insertion}
use Rattle.model.specs.Questions.{first_no, other_length, insertion_asked}
use Rattle.model.specs.Limits.{clock_limit}
use Rattle.model.specs.declared.answers.InsertError.TheVariants.{ClockAtLimit, NoPlace}
use Rattle.model.specs.Laws.Insert.{taken_asks}
use Rattle.model.proofs.Laws.Stream.{inserted_by}
use Rattle.model.specs.declared.micro.DenMicro.{DenMicro}
use Rattle.model.specs.DenState.{Params, State}
use Rattle.model.specs.DenInsert as doc
use Rattle.model.specs.DenInsert.{nearest_for}
use Rattle.model.specs.Denstream.{denstream, tick_of, has_place, insert_of}
use Rattle.den_pool.specs.declared.trial.Absorbed.{Absorbed}
use Rattle.den_pool.specs.Held.{micro_in, sized, settled_of, size_of}
use Rattle.den_pool.specs.Held.{dim_of as dim_of_params}
use Rattle.den_placement.specs.Pools.{pools_in}
use Rattle.den_placement.specs.declared.choice.Placed.{Placed}
use Rattle.den_placement.specs.declared.choice.Placement.{Placement}
use Rattle.den_placement.specs.Placing.{Ready, placement_of, placed_told, placement_told}
use Rattle.den_placement.specs.Laws.Placing.{Placing, placing_law}
use Rattle.denstream.specs.declared.stream.DenStream.{DenStream}
use Rattle.denstream.specs.View.{view, dim_of}
use Rattle.denstream.specs.Inside.Placed.{held_by, placed_by}

told_ok : (dim : ℕ) (o : Result Placed Absorbed) → is_ok o ≡ is_ok (placed_told dim o)
told_ok dim (Ok k) = refl
told_ok dim (Err a) = refl

-- a placement by as many coordinates as are looked at is one by all that the point has, if they are the parameters'
pub all_looked_at :
    (p : Params) (t : Float) (x : List Float) (potential outliers : List DenMicro) (r : Placement) →
    length x ≡ dim_of_params p →
    placement_told (size_of p x) r ≡ placement_of (sized (size_of p x) p) t (pools_in (size_of p x) potential outliers) (take (size_of p x) x) →
    placement_told (dim_of_params p) r ≡ placement_of (settled_of p) t (pools_in (dim_of_params p) potential outliers) x
all_looked_at p t x potential outliers r e w =
    let d = dim_of_params p in
    subst (λ (n : ℕ). placement_told n r ≡ placement_of (sized n p) t (pools_in n potential outliers) (take n x)) (omega (arith, e)) w
    ∙ ap (placement_of (settled_of p) t (pools_in d potential outliers)) (take_all d x (omega (arith, e)))

-- p is the placement of a point of the stream's coordinates
abbrev pub Met : DenStream → List Float → Placement → Type 0
Met s x p = length x ≡ dim_of s → placement_told (dim_of s) p ≡ placement_of (view s).params s.t (view s).held x

-- the last question apart: an answer that refuses with a place is the one without too; and after one that does not, the place decides
module _ (dim got : ℕ) (t : Float) (place : Bool) (a : Insertion) (ea : a ≡ insertion_asked dim got t true) where
  refuses : is_done a ≡ false → a ≡ insertion_asked dim got t place
  refuses h = go (got == dim) (lt t clock_limit) ea
    where
      go :
          (b c : Bool) → a ≡ first_no ((b, Err (other_length dim got)) ∷ (c, Err ClockAtLimit) ∷ (true, Err NoPlace) ∷ []) (Ok tt) →
          a ≡ first_no ((b, Err (other_length dim got)) ∷ (c, Err ClockAtLimit) ∷ (place, Err NoPlace) ∷ []) (Ok tt)
      go false c e = e
      go true false e = e
      go true true e = absurd (true≢false (sym (ap is_done e) ∙ h))

  decides : is_done a ≡ true → insertion_asked dim got t place ≡ cond place (Ok tt) (Err NoPlace)
  decides h = go (got == dim) (lt t clock_limit) ea
    where
      go :
          (b c : Bool) → a ≡ first_no ((b, Err (other_length dim got)) ∷ (c, Err ClockAtLimit) ∷ (true, Err NoPlace) ∷ []) (Ok tt) →
          ◌≡◌ {A = Insertion} (first_no ((b, Err (other_length dim got)) ∷ (c, Err ClockAtLimit) ∷ (place, Err NoPlace) ∷ []) (Ok tt))
          (cond place (Ok tt) (Err NoPlace))
      go false c e = absurd (true≢false (sym h ∙ ap is_done e))
      go true false e = absurd (true≢false (sym h ∙ ap is_done e))
      go true true e = refl

-- a is the answer about the point and the clock
module _ (s : DenStream) (x : List Float) (d : ℕ) (ed : d ≡ dim_of s) (a : Insertion) (ea : a ≡ insertion_asked d (length x) s.t true) where
  -- r is the answer to all questions, with this place
  answered :
      (place : Bool) → (length x ≡ d → place ≡ has_place (view s) x) → (r : Insertion) → r ≡ insertion_asked d (length x) s.t place → is_done r ≡ false →
      record { answer = r; stream = view s } ≡ insert_of (view s) x
  answered place fits r e h =
      inserted_by denstream (view s) x d place (doc.placed (view s) x) (nearest_for (view s) x) r false (view s) ed fits
      (λ k q. refl) (λ k. refl) e (sym h) refl

  pub refused : is_done a ≡ false → (r : Insertion) → r ≡ a → record { answer = r; stream = view s } ≡ insert_of (view s) x
  refused h r e = answered (has_place (view s) x) (λ k. refl) r (e ∙ refuses d (length x) s.t (has_place (view s) x) a ea h) (ap is_done e ∙ h)

  -- both are well, and p is the placement
  module _ (done : is_done a ≡ true) (p : Placement) (m : Met s x p) where
    abbrev place : Bool
    place = is_ok p.placed

    pub placing : length x ≡ d → Placing (view s) x (placement_told (dim_of s) p)
    placing h = subst (Placing (view s) x) (sym (m (h ∙ ed))) (placing_law (view s) x)

    fits : length x ≡ d → place ≡ has_place (view s) x
    fits h = told_ok (dim_of s) p.placed ∙ (placing h).fits

    by_place : (u : Bool) → place ≡ u → insertion_asked d (length x) s.t place ≡ cond u (Ok tt) (Err NoPlace)
    by_place u e = decides d (length x) s.t place a ea done ∙ ap (λ (v : Bool). cond v (Ok tt) (Err NoPlace)) e

    pub placeless : place ≡ false → (r : Insertion) → r ≡ Err NoPlace → record { answer = r; stream = view s } ≡ insert_of (view s) x
    placeless e r er = answered place fits r (er ∙ sym (by_place false e)) (ap is_done er)

    -- the point is taken: k is where it goes, and v what becomes of the stream
    module _ (k : Placed) (e : p.placed ≡ Ok k) where
      pub ready : Ready k.target (view s).held
      ready =
          (placing (taken_asks d (length x) s.t true a ea done).0).ready (record { target = k.target; micro = micro_in (dim_of s) k.micro })
          (ap (placed_told (dim_of s)) e)

      pub taken : (v : State) → v ≡ tick_of (placed_by s k) p.near → record { answer = Ok tt; stream = v } ≡ insert_of (view s) x
      taken v ev =
          inserted_by denstream (view s) x d place (held_by s k) p.near (Ok tt) true v ed fits
          (λ h q. (placing h).placed (record { target = k.target; micro = micro_in (dim_of s) k.micro }) (ap (placed_told (dim_of s)) e))
          (λ h. (placing h).near) (sym (by_place true (ap is_ok e))) refl ev
