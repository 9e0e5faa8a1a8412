-- The ways that a DenStream places a point: four.
use mathlib.Core.Path.{◌≡◌, refl}
use mathlib.Core.Bool.{Bool, true, false, cond, ◌||◌}
use mathlib.Core.List.{List, [], ◌∷◌, ◌++◌}
use mathlib.Core.Option.{Option, none, some}
use lib.ListN.{set}
use lib.Ieee.{Float, le}
use Rattle.lists.specs.Retain.{without}
use Rattle.model.specs.declared.micro.DenMicro.{DenMicro}
use Rattle.model.specs.Nearest.{Near}
use Rattle.model.specs.DenState.{Holdings, pooled, State}
use Rattle.model.specs.DenInsert.{trial_in, newborn, placed_by, placed, is_there, is_absorbed}
use Rattle.claims.proofs.DenTrials.{Tried, TriedBy, tried}

-- into a potential one; into an outlier that moves up or stays; or a new outlier
pub placed_cases :
    (P : Holdings → Type 0) (s : State) (x : List Float) →
    ((b : Near DenMicro) → Tried s x s.held.potential b → P (pooled (set s.held.potential b.place b.micro) s.held.outliers)) →
    ((b : Near DenMicro) → Tried s x s.held.outliers b → P (pooled (s.held.potential ++ b.micro ∷ []) (without b.place s.held.outliers))) →
    ((b : Near DenMicro) → Tried s x s.held.outliers b → P (pooled s.held.potential (set s.held.outliers b.place b.micro))) →
    (is_absorbed s x ≡ false → P (pooled s.held.potential (s.held.outliers ++ newborn s.params.settings.dim s.t x ∷ []))) →
    P (placed s x)
unfolding placed
placed_cases P s x old up stays new =
    go (trial_in s x s.held.potential) (trial_in s x s.held.outliers) (tried s x s.held.potential) (tried s x s.held.outliers) new
  where
    grown :
        (b : Near DenMicro) →
        Tried s x s.held.outliers b →
        (t : Bool) →
        P (cond t (pooled (s.held.potential ++ b.micro ∷ []) (without b.place s.held.outliers))
        (pooled s.held.potential (set s.held.outliers b.place b.micro)))
    grown b f true = up b f
    grown b f false = stays b f

    go :
        (p o : Option (Near DenMicro)) →
        TriedBy s x s.held.potential p →
        TriedBy s x s.held.outliers o →
        ((is_there p || is_there o) ≡ false → P (pooled s.held.potential (s.held.outliers ++ newborn s.params.settings.dim s.t x ∷ []))) →
        P (placed_by s x p o)
    go (some b) o f g h = old b f
    go none (some b) f g h = grown b g (le s.params.bm b.micro.body.cf.w)
    go none none f g h = h refl
