-- The trial of a pool's nearest, as the code tells it. Definitions only.
use Rattle.std.specs.Prelude.{ℕ, Bool, cond, List, Float, None, Some, Result, Ok, Err}
use Rattle.std.proofs.Math.Option.{Option, none, some}
use Rattle.model.specs.declared.micro.DenMicro.{DenMicro}
use Rattle.model.specs.Nearest.{Near}
use Rattle.model.specs.DenState.{Params}
use Rattle.model.specs.DenInsert.{nearest_in, absorbs, stands, newborn}
use Rattle.den_pool.specs.declared.trial.Absorbed.{Absorbed}
use Rattle.den_pool.specs.declared.trial.Trial.{Trial}
use Rattle.den_pool.specs.Held.{micro_in}

-- a copy that stands, or does not
abbrev pub copy_by : (standing : Bool) → Absorbed → Result Absorbed Absorbed
copy_by standing a = cond standing (Ok a) (Err a)

-- "a copy faded to t absorbs the point and stands if w > 0 and ssd/w ≤ eps×eps"; without a nearest, the point alone at place 0
abbrev pub tried_by : Params → (t : Float) → List Float → Option (Near DenMicro) → Trial
tried_by p t x none = record { near = None; taken = Err (record { place = 0; micro = newborn p.settings.dim t x }) }
tried_by p t x (some b) =
    let copy : DenMicro = absorbs p.settings.lambda t x b.micro in
    record { near = Some b.dist; taken = copy_by (stands p.eps2 copy) (record { place = b.place; micro = copy }) }

abbrev pub tried_of : Params → (t : Float) → List Float → List DenMicro → Trial
tried_of p t x pool = tried_by p t x (nearest_in x pool)

-- a micro-cluster with its place, kept in 15 places, as that of dim coordinates which it is; a trial so
abbrev pub absorbed_in : (dim : ℕ) → Absorbed → Absorbed
absorbed_in dim a = record { place = a.place; micro = micro_in dim a.micro }

abbrev pub absorbed_told : (dim : ℕ) → Result Absorbed Absorbed → Result Absorbed Absorbed
absorbed_told dim (Ok a) = Ok (absorbed_in dim a)
absorbed_told dim (Err a) = Err (absorbed_in dim a)

abbrev pub trial_told : (dim : ℕ) → Trial → Trial
trial_told dim r = record { near = r.near; taken = absorbed_told dim r.taken }
