-- Connectivity worked out for pairs that rest, that weigh nothing, that no link joins, and that are none, as one theorem.
use Rattle.std.specs.Prelude.{◌≡◌, refl, false, List, [], ◌∷◌, negsuc, Float}
use Rattle.std.specs.Float.{fin}
use Rattle.float.specs.Laws.Computed.{computed}
use Rattle.float.specs.Rounded.{nought, one, two, whole}
use Rattle.model.specs.declared.micro.MicroId.{MicroId}
use Rattle.model.specs.declared.micro.DbMicro.{DbMicro}
use Rattle.model.specs.declared.link.Link.{Link}
use Rattle.model.specs.Any.{any}
use Rattle.model.specs.Answers.{gives, refuses}
use Rattle.model.specs.DbState.{Settings, State, params_of}
use Rattle.model.specs.Dbstream.{fresh}
use Rattle.db_readout.specs.Connectivity.{connectivity_of}

abbrev half : Float
half = fin false 1 (negsuc 0)

abbrev first : MicroId
first = record { 0 = 0 }

abbrev second : MicroId
second = record { 0 = 1 }

abbrev of : MicroId → (w last : Float) → DbMicro
of id w last = record { body = record { cf = record { w = w; mean = nought ∷ []; ssd = nought }; last = last }; id = id }

abbrev shared : (value last : Float) → Link
shared value last = record { lo = first; hi = second; value = value; last = last }

abbrev settings : (lambda : Float) → Settings
settings lambda = record { dim = 1; r = one; lambda = lambda; alpha = one; min_weight = one }

-- a stream at the clock t that holds these
abbrev at : (lambda t : Float) → List DbMicro → List Link → State
at lambda t ms ls =
    record {
      params = params_of (settings lambda);
      t = t;
      held = record { next = 2; micros = ms; links = ls };
      labels = [];
      drift = (fresh (settings lambda)).drift;
    }

-- the first rests from the tick 1 on, the second from 3 on, the link from 1 on; lambda 1
abbrev resting : (t : Float) → State
resting t = at one t (of first (whole 4) one ∷ of second one (whole 3) ∷ []) (shared two one ∷ [])

-- two that weighed so much at the tick 0, and a link of 1 at t
abbrev weighing : (wa wb lambda t : Float) → State
weighing wa wb lambda t = at lambda t (of first wa nought ∷ of second wb nought ∷ []) (shared one t ∷ [])

pub examples :
    -- "whenever one of the pair had rested": at 3 the weights are 1 and 1, the link is 0.5; while both rest all halve, and the reading stays
    (connectivity_of (resting (whole 3)) first second ≡ gives half)
    × (connectivity_of (resting (whole 4)) first second ≡ gives half)
    × (connectivity_of (resting (whole 5)) first second ≡ gives half)
    -- "A pair whose mean faded weight is 0 reads 0.": of weights 0, rounded from 2^−1075, and of weights that have faded by 2^−1088,
    -- which two to the y gives as 0
    × (connectivity_of (weighing nought nought one nought) first second ≡ gives nought)
    × (connectivity_of (weighing (fin false 1 (negsuc 1073)) nought one nought) first second ≡ gives nought)
    × (connectivity_of (weighing one one (whole 64) (whole 17)) first second ≡ gives nought)
    -- "0 without a link"
    × (connectivity_of (at one one (of first one one ∷ of second one one ∷ []) []) first second ≡ gives nought)
    -- "No: 12.": one that is not held; the same twice
    × (connectivity_of (resting (whole 3)) first (record { 0 = 2 }) ≡ refuses 12 [])
    × (connectivity_of (resting (whole 3)) first first ≡ refuses 12 [])
unfolding computed any connectivity_of
examples = (refl, refl, refl, refl, refl, refl, refl, refl, refl)
