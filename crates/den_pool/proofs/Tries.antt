-- The code's trial of the nearest is the definition's. Assumes nothing.
use Prim.Native.Nat.{ℕ, ◌≤◌, ◌<◌}
use mathlib.Core.Path.{◌≡◌, refl, sym, ap, ◌∙◌}
use mathlib.Core.Bool.{Bool, true, false}
use mathlib.Core.Logic.{⊎_elim}
use mathlib.Core.List.{List, [], ◌∷◌, map}
use mathlib.Core.Option.{some}
use native.Mathlib.Omega.{arith}
use lib.Ieee.{Float}
use lib.ListN.{length, take, get_or, length-map, get_or-map}
use Rattle.std.specs.Prelude.{Option, None, Some, Result, Ok, Err}
use Rattle.std.proofs.lemmas.Bool.{cases_lt}
use Rattle.std.proofs.lemmas.List.{take_all}
use Rattle.float.specs.Rounded.{◌⊕◌, ◌⊖◌, ◌⊗◌, nought}
use Rattle.feature.specs.Distance.{sum_from, sq_dist}
use Rattle.feature.specs.Feature.{max_dim, moved}
use Rattle.model.specs.declared.micro.DenMicro.{DenMicro}
use Rattle.model.specs.Nearest.{nearest_of}
use Rattle.model.specs.Body.{distance_to}
use Rattle.model.specs.DenState.{Params}
use Rattle.model.specs.DenInsert.{nearest_in, absorbs, stands, newborn}
use Rattle.readout.specs.declared.distances.Found.{Found}
use Rattle.readout.specs.Found.{found_of}
use Rattle.readout.specs.Laws.Nearest.{found_map, found_at, found_nothing}
use Rattle.den_pool.specs.declared.trial.Absorbed.{Absorbed}
use Rattle.den_pool.specs.Held.{kept_of, sized, micro_in, distance_of}
use Rattle.den_pool.specs.Tried.{copy_by, absorbed_told, tried_by, tried_of, trial_told}
use Rattle.den_pool.specs.Laws.Tried.{newborn_in, absorbs_in}

-- a distance goes as far as the point
sum_upto : (s : Float) (ms xs : List Float) → sum_from s (take (length xs) ms) xs ≡ sum_from s ms xs
unfolding sum_from
sum_upto s ms [] = none_left ms
  where
    none_left : (ms : List Float) → sum_from s [] [] ≡ sum_from s ms []
    none_left [] = refl
    none_left (m ∷ ms) = refl
sum_upto s [] (x ∷ xs) = refl
sum_upto s (m ∷ ms) (x ∷ xs) = sum_upto (s ⊕ (m ⊖ x) ⊗ (m ⊖ x)) ms xs

-- the code's measure of a micro-cluster, which is kept in 15 places
pub measured_in : (x : List Float) (m : DenMicro) → sq_dist m.body.cf.mean x ≡ distance_of (length x) x m
measured_in x m = sym (sum_upto nought m.body.cf.mean x)

-- a mean keeps its length
moved_length : (f : Float) (ms xs : List Float) → length (moved f ms xs) ≡ length ms
unfolding moved
moved_length f [] xs = refl
moved_length f (m ∷ ms) [] = refl
moved_length f (m ∷ ms) (x ∷ xs) = let e : length (moved f ms xs) ≡ length ms = moved_length f ms xs in omega arith

-- the point alone, as it is seen: in as many coordinates as it has, and 15 at most
alone_in : (t : Float) (x : List Float) (m : DenMicro) → m ≡ newborn max_dim t x → micro_in (length x) m ≡ newborn (kept_of x) t x
alone_in t x m e = ⊎_elim long short (cases_lt max_dim (length x))
  where
    short : length x ≤ max_dim → micro_in (length x) m ≡ newborn (kept_of x) t x
    short h = newborn_in (length x) t x m refl h e ∙ ap (λ (n : ℕ). newborn n t x) (let k : length x ≡ kept_of x = omega arith in k)

    long : max_dim < length x → micro_in (length x) m ≡ newborn (kept_of x) t x
    long h =
        let b : DenMicro = newborn max_dim t x in
        let kept : length b.body.cf.mean ≡ max_dim = moved_length _ _ x in
        ap (micro_in (length x)) e
        ∙ ap (λ (l : List Float). record { body = record { cf = record { w = b.body.cf.w; mean = l; ssd = b.body.cf.ssd }; last = t }; t0 = t })
        (take_all (length x) b.body.cf.mean (omega (arith, kept)))
        ∙ ap (λ (n : ℕ). newborn n t x) (let k : max_dim ≡ kept_of x = omega arith in k)

-- what the search of the nearest finds
module _ (p : Params) (t : Float) (x : List Float) (pool : List DenMicro) (found : Option Found) (least : found ≡ found_of (nearest_of (distance_of (length x) x) pool)) where
  abbrev l : List DenMicro
  l = map (micro_in (length x)) pool

  abbrev distance : DenMicro → Float
  distance m = distance_to x m.body

  found_is : found ≡ found_of (nearest_in x l)
  found_is = least ∙ sym (found_map distance (micro_in (length x)) pool)

  -- the parameters, of as many coordinates as are kept of the point
  abbrev own : Params
  own = sized (kept_of x) p

  pub tried_none :
      found ≡ None → (m : DenMicro) → m ≡ newborn max_dim t x →
      trial_told (length x) (record { near = None; taken = Err (record { place = 0; micro = m }) }) ≡ tried_of own t x l
  tried_none e m w =
      ap (λ (n : DenMicro). record { near = None; taken = Err (record { place = 0; micro = n }) }) (alone_in t x m w)
      ∙ ap (tried_by own t x) (sym (found_nothing distance l (sym found_is ∙ e)))

  module _ (at : Found) (e : found ≡ Some at) where
    pub found_here : at.place < length pool
    found_here = omega (arith, (found_at distance l at.place at.dist (sym found_is ∙ e)).low, length-map pool (micro_in (length x)))

    -- the nearest, as it is seen
    abbrev nearest : DenMicro → DenMicro
    nearest z = micro_in (length x) (get_or pool at.place z)

    found_some : (z : DenMicro) → nearest_in x l ≡ some (record { place = at.place; micro = nearest z; dist = at.dist })
    found_some z =
        (found_at distance l at.place at.dist (sym found_is ∙ e)).is (micro_in (length x) z)
        ∙ ap (λ (m : DenMicro). some (record { place = at.place; micro = m; dist = at.dist })) (get_or-map (micro_in (length x)) pool at.place z)

    -- a copy that stands or not, in the places that it is kept in, and in the coordinates of the point
    copied :
        (copy told : DenMicro) (u : Bool) → micro_in (length x) copy ≡ told →
        absorbed_told (length x) (copy_by u (record { place = at.place; micro = copy })) ≡ copy_by u (record { place = at.place; micro = told })
    copied copy told true h = ap (λ (m : DenMicro). Ok (record { place = at.place; micro = m })) h
    copied copy told false h = ap (λ (m : DenMicro). Err (record { place = at.place; micro = m })) h

    pub tried_some :
        (z copy : DenMicro) (st : Bool) (taken : Result Absorbed Absorbed) →
        copy ≡ absorbs p.settings.lambda t x (get_or pool at.place z) →
        st ≡ stands p.eps2 copy →
        taken ≡ copy_by st (record { place = at.place; micro = copy }) →
        trial_told (length x) (record { near = Some at.dist; taken = taken }) ≡ tried_of own t x l
    tried_some z copy st taken w s k =
        let told : micro_in (length x) copy ≡ absorbs p.settings.lambda t x (nearest z) =
        ap (micro_in (length x)) w ∙ absorbs_in (length x) p.settings.lambda t x (get_or pool at.place z) refl in
        let one : DenMicro = absorbs p.settings.lambda t x (nearest z) in
        ap (λ (o : Result Absorbed Absorbed). record { near = Some at.dist; taken = o })
        (ap (absorbed_told (length x)) (k ∙ ap (λ (u : Bool). copy_by u (record { place = at.place; micro = copy })) s)
        ∙ copied copy one (stands p.eps2 copy) told
        ∙ ap (λ (m : DenMicro). copy_by (stands p.eps2 m) (record { place = at.place; micro = one })) told)
        ∙ ap (tried_by own t x) (sym (found_some z))
