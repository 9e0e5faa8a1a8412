-- What the two trials choose is the definition's placement. Assumes nothing.
use Prim.Native.Nat.{ℕ, ◌+◌, ◌≤◌, ◌<◌}
use mathlib.Core.Path.{◌≡◌, sym, ap, ap₂, ◌∙◌, subst}
use mathlib.Core.Bool.{Bool, true, false}
use mathlib.Core.List.{List, map}
use native.Mathlib.Omega.{arith}
use lib.Ieee.{Float}
use lib.ListN.{length, length-map, take, length-take}
use borrow.Author.Tests.{lt-ltb, le-ltb}
use Rattle.std.specs.Prelude.{Result, Ok, Err}
use Rattle.feature.specs.Feature.{max_dim}
use Rattle.drift.specs.Monitor.{Nearest}
use Rattle.model.specs.declared.micro.DenMicro.{DenMicro}
use Rattle.model.specs.Limits.{micros_most}
use Rattle.model.specs.DenState.{Params, Holdings}
use Rattle.model.specs.DenInsert.{smaller_of, newborn}
use Rattle.den_pool.specs.declared.trial.Absorbed.{Absorbed}
use Rattle.den_pool.specs.declared.trial.Trial.{Trial}
use Rattle.den_pool.specs.Held.{kept_of, sized, size_of, micro_in}
use Rattle.den_pool.specs.Tried.{absorbed_told, tried_of, trial_told}
use Rattle.den_pool.specs.Laws.Tried.{newborn_in}
use Rattle.den_placement.specs.declared.choice.Target.{Target}
use Rattle.den_placement.specs.declared.choice.Target.TheVariants.{Potential, Newborn}
use Rattle.den_placement.specs.declared.choice.Placement.{Placement}
use Rattle.den_placement.specs.Pools.{pools_in}
use Rattle.den_placement.specs.Placing.{grown_to, alone_by, else_by, placement_by, has_room, placement_of, placement_told}

-- of the point d coordinates are looked at
module _ (p : Params) (t : Float) (point : List Float) (potential outliers : List DenMicro) (d : ℕ) (is : d ≡ size_of p point) where
  abbrev x : List Float
  x = take d point

  few : d ≤ max_dim
  few = omega (arith, is)

  e : length x ≡ d
  e = length-take d point ∙ omega (arith, is)

  abbrev h : Holdings
  h = pools_in d potential outliers

  abbrev by : (a b : Trial) → Placement
  by a b = placement_by (sized d p) t x (has_room h) a.near a.taken b

  abbrev Told : Placement → ℕ → Type 0
  Told r n = placement_told n r ≡ placement_of (sized n p) t (pools_in n potential outliers) (take n point)

  -- c is the trial of the point in the pool
  abbrev Tried : List DenMicro → Trial → Type 0
  Tried pool c = trial_told (length x) c ≡ tried_of (sized (kept_of x) p) t x (map (micro_in (length x)) pool)

  -- as one of a point of so many coordinates
  in_dim : (pool : List DenMicro) (c : Trial) → Tried pool c → trial_told d c ≡ tried_of (sized d p) t x (map (micro_in d) pool)
  in_dim pool c w =
      subst (λ (n : ℕ). trial_told n c ≡ tried_of (sized d p) t x (map (micro_in n) pool)) e
      (w ∙ ap (λ (n : ℕ). tried_of (sized n p) t x (map (micro_in (length x)) pool)) (let k : kept_of x ≡ d = omega (arith, e, few) in k))

  -- a is the trial of the potential ones
  module _ (a : Trial) (ea : Tried potential a) where
    pub placed_potential :
        (k : Absorbed) → a.taken ≡ Ok k →
        Told (record { placed = Ok (record { target = Potential k.place; micro = k.micro }); near = a.near }) (size_of p point)
    placed_potential k w =
        subst (Told (record { placed = Ok (record { target = Potential k.place; micro = k.micro }); near = a.near })) is
        (ap (λ (o : Result Absorbed Absorbed). placement_by (sized d p) t x (has_room h) a.near (absorbed_told d o) (tried_of (sized d p) t x h.outliers))
        (sym w)
        ∙ ap (λ (c : Trial). by c (tried_of (sized d p) t x h.outliers)) (in_dim potential a ea))

    -- no potential one takes it, and b is the trial of the outliers
    module _ (f : Absorbed) (free : a.taken ≡ Err f) (b : Trial) (eb : Tried outliers b) (near : Nearest) (g : near ≡ smaller_of a.near b.near) where
      abbrev others : Result Absorbed Absorbed → Nearest → Placement
      others o n = record { placed = else_by (sized d p) t x (has_room h) (absorbed_told d o); near = n }

      by_others : (o : Result Absorbed Absorbed) → b.taken ≡ o → others o near ≡ placement_of (sized d p) t h x
      by_others o w =
          ap₂ others (sym w) g
          ∙ ap (λ (q : Result Absorbed Absorbed). placement_by (sized d p) t x (has_room h) a.near (absorbed_told d q) (trial_told d b)) (sym free)
          ∙ ap₂ by (in_dim potential a ea) (in_dim outliers b eb)

      pub placed_outlier :
          (k : Absorbed) → b.taken ≡ Ok k → (target : Target) → target ≡ grown_to p.bm k →
          Told (record { placed = Ok (record { target = target; micro = k.micro }); near = near }) (size_of p point)
      placed_outlier k w target q =
          subst (Told (record { placed = Ok (record { target = target; micro = k.micro }); near = near })) is
          (ap (λ (u : Target). placement_told d (record { placed = Ok (record { target = u; micro = k.micro }); near = near })) q ∙ by_others (Ok k) w)

      -- none takes it: a new outlier, if there is room
      left :
          (u : Absorbed) → b.taken ≡ Err u → (room : Bool) → room ≡ has_room h →
          record { placed = alone_by room (newborn d t x); near = near } ≡ placement_of (sized d p) t h x
      left u w room q = ap (λ (v : Bool). record { placed = alone_by v (newborn d t x); near = near }) q ∙ by_others (Err u) w

      held_are : length h.potential + length h.outliers ≡ length potential + length outliers
      held_are = ap₂ (λ (i j : ℕ). i + j) (length-map potential (micro_in d)) (length-map outliers (micro_in d))

      pub placed_newborn :
          (u : Absorbed) → b.taken ≡ Err u → (m : DenMicro) → m ≡ newborn max_dim t x → length potential + length outliers < micros_most →
          Told (record { placed = Ok (record { target = Newborn; micro = m }); near = near }) (size_of p point)
      placed_newborn u w m q low =
          subst (Told (record { placed = Ok (record { target = Newborn; micro = m }); near = near })) is
          (ap (λ (n : DenMicro). record { placed = alone_by true n; near = near }) (newborn_in d t x m e few q)
          ∙ left u w true (sym (lt-ltb (length h.potential + length h.outliers) micros_most (omega (arith, held_are)))))

      pub placed_nowhere :
          (u : Absorbed) → b.taken ≡ Err u → (m : DenMicro) → m ≡ newborn max_dim t x → micros_most ≤ length potential + length outliers →
          Told (record { placed = Err (record { place = 0; micro = m }); near = near }) (size_of p point)
      placed_nowhere u w m q full =
          subst (Told (record { placed = Err (record { place = 0; micro = m }); near = near })) is
          (ap (λ (n : DenMicro). record { placed = alone_by false n; near = near }) (newborn_in d t x m e few q)
          ∙ left u w false (sym (le-ltb (length h.potential + length h.outliers) micros_most (omega (arith, held_are)))))
