-- Document 01, DenStream: what a point and a pruning do to the pools. Definitions only.
use Rattle.std.specs.Prelude.{ℕ, Bool, true, false, cond, ◌&&◌, ◌||◌, List, [], ◌∷◌, ◌++◌, slice_set, Float, None, Some}
use Rattle.std.proofs.Math.Option.{Option, none, some}
use Rattle.std.specs.Float.Ieee.{lt, le, neg}
use Rattle.float.specs.Rounded.{◌⊕◌, ◌⊖◌, ◌⊗◌, ◌⊘◌, nought, one}
use Rattle.float.specs.TwoTo.{two_to}
use Rattle.lists.specs.Retain.{retain, without}
use Rattle.model.specs.declared.micro.DenMicro.{DenMicro}
use Rattle.model.specs.Body.{birth, absorbing, faded_weight, distance_to}
use Rattle.model.specs.Nearest.{Near, nearest_of}
use Rattle.model.specs.DenState.{Params, Holdings, pooled, State}
use Rattle.drift.specs.Monitor.{Nearest}

-- ---- the trial of a pool's nearest
-- "a copy faded to t absorbs the point"
abbrev pub absorbs : (lambda t : Float) → List Float → DenMicro → DenMicro
absorbs lambda t x m = record { body = absorbing lambda t x m.body; t0 = m.t0 }

-- "and stands if w > 0 and ssd/w ≤ eps×eps"
abbrev pub stands : (eps2 : Float) → DenMicro → Bool
stands eps2 m = lt nought m.body.cf.w && le (m.body.cf.ssd ⊘ m.body.cf.w) eps2

abbrev pub nearest_in : List Float → List DenMicro → Option (Near DenMicro)
nearest_in x pool = nearest_of (λ (m : DenMicro). distance_to x m.body) pool

-- the nearest's place with the copy, if the copy stands
abbrev pub trial : Params → (t : Float) → List Float → Option (Near DenMicro) → Option (Near DenMicro)
trial p t x none = none
trial p t x (some b) =
    cond (stands p.eps2 (absorbs p.settings.lambda t x b.micro))
    (some (record { place = b.place; micro = absorbs p.settings.lambda t x b.micro; dist = b.dist })) none

abbrev pub trial_in : State → List Float → List DenMicro → Option (Near DenMicro)
trial_in s x pool = trial s.params s.t x (nearest_in x pool)

-- ---- a point taken
-- "and moves to the end of the potential list if w ≥ bm"
abbrev pub outlier_grown : State → Near DenMicro → Holdings
outlier_grown s b =
    cond (le s.params.bm b.micro.body.cf.w)
    (pooled (s.held.potential ++ b.micro ∷ []) (without b.place s.held.outliers))
    (pooled s.held.potential (slice_set s.held.outliers b.place b.micro))

abbrev pub newborn : (dim : ℕ) (t : Float) → List Float → DenMicro
newborn dim t x = record { body = birth dim t x; t0 = t }

-- "The nearest potential one is tried first .. Else the nearest outlier is tried likewise .. Else a new outlier goes to the end of the outliers."
abbrev pub placed_by : State → List Float → (potential outlier : Option (Near DenMicro)) → Holdings
placed_by s x (some b) o = pooled (slice_set s.held.potential b.place b.micro) s.held.outliers
placed_by s x none (some b) = outlier_grown s b
placed_by s x none none = pooled s.held.potential (s.held.outliers ++ newborn s.params.settings.dim s.t x ∷ [])

unfoldable pub placed : State → List Float → Holdings
unfolding nearest_of
placed s x = placed_by s x (trial_in s x s.held.potential) (trial_in s x s.held.outliers)

abbrev pub is_there : {A : Type 0} → Option A → Bool
is_there none = false
is_there (some a) = true

abbrev pub is_absorbed : State → List Float → Bool
is_absorbed s x = is_there (trial_in s x s.held.potential) || is_there (trial_in s x s.held.outliers)

-- ---- the drift distance
-- the nearest distance of a pool, if it has one
abbrev pub distance_of : Option (Near DenMicro) → Nearest
distance_of none = None
distance_of (some b) = Some b.dist

-- "the smaller of both (a potential one only if strictly smaller, or alone)"
abbrev pub smaller_of : (potential outlier : Nearest) → Nearest
smaller_of None o = o
smaller_of (Some a) None = Some a
smaller_of (Some a) (Some b) = Some (cond (lt a b) a b)

-- "DenStream takes the potential pool's if it merged there, else the smaller of both"
unfoldable pub nearest_for : State → List Float → Nearest
unfolding nearest_of
nearest_for s x =
    let p : Nearest = distance_of (nearest_in x s.held.potential) in
    cond (is_there (trial_in s x s.held.potential)) p (smaller_of p (distance_of (nearest_in x s.held.outliers)))

-- ---- the pruning, "order kept"
-- "potential ones need faded w ≥ bm"
abbrev pub potential_stays : Params → (t : Float) → DenMicro → Bool
potential_stays p t m = le p.bm (faded_weight p.settings.lambda t m.body)

-- "outliers need faded w ≥ (2^(−lambda×(t−t0+tp)) − 1) / (2^(−lambda×tp) − 1), t0 their birth"
abbrev pub outlier_needs : Params → (t t0 : Float) → Float
outlier_needs p t t0 = (two_to (neg p.settings.lambda ⊗ (t ⊖ t0 ⊕ p.tp)) ⊖ one) ⊘ (two_to (neg p.settings.lambda ⊗ p.tp) ⊖ one)

abbrev pub outlier_stays : Params → (t : Float) → DenMicro → Bool
outlier_stays p t m = le (outlier_needs p t m.t0) (faded_weight p.settings.lambda t m.body)

abbrev pub pruned : Params → (t : Float) → Holdings → Holdings
pruned p t h = pooled (retain (potential_stays p t) h.potential) (retain (outlier_stays p t) h.outliers)
