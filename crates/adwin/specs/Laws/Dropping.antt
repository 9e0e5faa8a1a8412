-- The cut search drops buckets from the oldest on, and the width is what the rest holds.
use Rattle.std.specs.Prelude.{◌≡◌, ℕ, ◌+◌, ◌-◌, ◌^◌, Bool, true, false, cond, List, [], ◌∷◌, ◌++◌, refl, Float}
use Rattle.std.proofs.Common.{ap, subst, arith}
use Rattle.float.specs.Rounded.{◌⊖◌, Exact}
use Rattle.float.specs.Laws.Whole.{exact_difference}
use Rattle.adwin.specs.Buckets.{Classed}
use Rattle.adwin.specs.Cut.{Sums, Searched, search_of, must_drop, buckets_of, sums_without, also_dropped, all_kept}
use Rattle.adwin.specs.History.{values_in, Sized}

-- what a search drops and what it keeps are the buckets in their order, and the width is that of those kept
pub record Split (held : List Classed) (r : Searched) : Type 0 where
  pub parts : held ≡ r.dropped ++ r.kept
  pub width : Exact (values_in r.kept) r.sums.width

-- a search keeps the order, and its width stays exact
pub splits :
    (d : Float) (s : Sums) (held : List Classed) →
    Exact (values_in held) s.width →
    Sized held →
    Split held (search_of d s held)
unfolding search_of
splits d s [] e z = record { parts = refl; width = e }
splits d s (b ∷ l) e z = go (must_drop d s (buckets_of (b ∷ l))) (splits d (sums_without s b.bucket) l w z.1)
  where
    w : Exact (values_in l) (sums_without s b.bucket).width
    w =
        let v : 2 ^ b.class + values_in l - 2 ^ b.class ≡ values_in l = omega arith in
        subst (λ (i : ℕ). Exact i (s.width ⊖ b.bucket.size)) v (exact_difference e z.0 (omega arith))

    go :
        (t : Bool) → Split l (search_of d (sums_without s b.bucket) l) →
        Split (b ∷ l) (cond t (also_dropped b (search_of d (sums_without s b.bucket) l)) (all_kept s (b ∷ l)))
    go true r = record { parts = ap (λ (k : List Classed). b ∷ k) r.parts; width = r.width }
    go false r = record { parts = refl; width = e }
