-- Where a point goes, and what that makes of the pools. Definitions only.
use Rattle.std.specs.Prelude.{ℕ, ◌+◌, ◌<◌, Bool, cond, List, [], ◌∷◌, ◌++◌, ltb, Float, length, set, Result, Ok, Err}
use Rattle.std.specs.Float.Ieee.{le}
use Rattle.lists.specs.Retain.{without}
use Rattle.drift.specs.Monitor.{Nearest}
use Rattle.model.specs.declared.micro.DenMicro.{DenMicro}
use Rattle.model.specs.Limits.{micros_most}
use Rattle.model.specs.DenState.{Params, Holdings, pooled}
use Rattle.model.specs.DenInsert.{newborn, smaller_of}
use Rattle.den_pool.specs.declared.trial.Absorbed.{Absorbed}
use Rattle.den_pool.specs.declared.trial.Trial.{Trial}
use Rattle.den_pool.specs.Held.{micro_in}
use Rattle.den_pool.specs.Tried.{tried_of, absorbed_in}
use Rattle.den_placement.specs.declared.choice.Target.{Target}
use Rattle.den_placement.specs.declared.choice.Target.TheVariants.{Potential, Promotion, Outlier, Newborn}
use Rattle.den_placement.specs.declared.choice.Placed.{Placed}
use Rattle.den_placement.specs.declared.choice.Placement.{Placement}

-- ---- the placement of a point
-- "and moves to the end of the potential list if w ≥ bm"
abbrev pub grown_to : (bm : Float) → Absorbed → Target
grown_to bm a = cond (le bm a.micro.body.cf.w) (Promotion a.place) (Outlier a.place)

-- "Else a new outlier goes to the end of the outliers", if there is room; if not, the point alone at place 0
abbrev pub alone_by : (room : Bool) → DenMicro → Result Placed Absorbed
alone_by room m = cond room (Ok (record { target = Newborn; micro = m })) (Err (record { place = 0; micro = m }))

-- "Else the nearest outlier is tried likewise"; where none absorbs, the point is alone
abbrev pub else_by : Params → (t : Float) → List Float → (room : Bool) → (outlier : Result Absorbed Absorbed) → Result Placed Absorbed
else_by p t x room (Ok a) = Ok (record { target = grown_to p.bm a; micro = a.micro })
else_by p t x room (Err a) = alone_by room (newborn p.settings.dim t x)

-- "The nearest potential one is tried first"; the drift distance is "the potential pool's if it merged there, else the smaller of both"
abbrev pub placement_by :
    Params → (t : Float) → List Float → (room : Bool) → (near : Nearest) → (potential : Result Absorbed Absorbed) → (outlier : Trial) → Placement
placement_by p t x room near (Ok a) b = record { placed = Ok (record { target = Potential a.place; micro = a.micro }); near = near }
placement_by p t x room near (Err a) b = record { placed = else_by p t x room b.taken; near = smaller_of near b.near }

-- "are fewer than 64 micro-clusters held (DenStream: both pools together)?"
abbrev pub has_room : Holdings → Bool
has_room h = ltb (length h.potential + length h.outliers) micros_most

abbrev pub placement_of : Params → (t : Float) → Holdings → List Float → Placement
placement_of p t h x =
    let a : Trial = tried_of p t x h.potential in
    placement_by p t x (has_room h) a.near a.taken (tried_of p t x h.outliers)

-- what is placed, its micro-cluster kept in 15 places, as that of dim coordinates which it is; a placement so
abbrev pub placed_told : (dim : ℕ) → Result Placed Absorbed → Result Placed Absorbed
placed_told dim (Ok k) = Ok (record { target = k.target; micro = micro_in dim k.micro })
placed_told dim (Err a) = Err (absorbed_in dim a)

abbrev pub placement_told : (dim : ℕ) → Placement → Placement
placement_told dim r = record { placed = placed_told dim r.placed; near = r.near }

-- ---- what a target makes of the pools
-- what is held after the micro-cluster m went to its target
abbrev pub pooled_at : Target → DenMicro → Holdings → Holdings
pooled_at (Potential place) m h = pooled (set h.potential place m) h.outliers
pooled_at (Promotion place) m h = pooled (h.potential ++ m ∷ []) (without place h.outliers)
pooled_at (Outlier place) m h = pooled h.potential (set h.outliers place m)
pooled_at Newborn m h = pooled h.potential (h.outliers ++ m ∷ [])

-- whether the pools have what the target needs
abbrev pub Ready : Target → Holdings → Type 0
Ready (Potential place) h = place < length h.potential
Ready (Promotion place) h = place < length h.outliers
Ready (Outlier place) h = place < length h.outliers
Ready Newborn h = length h.potential + length h.outliers < micros_most
