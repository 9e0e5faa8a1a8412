-- What is kept of each micro-cluster, through every insert of a DenStream.
use Prim.Native.Nat.{ℕ, ◌+◌, ◌≤◌}
use mathlib.Core.Path.{sym, subst}
use mathlib.Core.List.{List, [], ◌∷◌}
use lib.Ieee.{Float}
use Rattle.lists.specs.Each.{Each}
use Rattle.lists.specs.Laws.Each.{each_more, each_append}
use Rattle.float.specs.Rounded.{◌⊕◌, one}
use Rattle.model.specs.declared.micro.DenMicro.{DenMicro}
use Rattle.model.specs.Limits.{clock_most}
use Rattle.model.specs.Nearest.{Near}
use Rattle.model.specs.Run.{accepted_in}
use Rattle.model.specs.DenState.{Settings, Holdings, State}
use Rattle.model.specs.DenInsert.{absorbs, newborn, placed, nearest_for, potential_stays, outlier_stays}
use Rattle.model.specs.Denstream.{denstream, has_place, taken_of}
use Rattle.model.specs.Stream.{taking}
use Rattle.model.proofs.Laws.Stream.{tick_cases}
use Rattle.claims.specs.Clock.{Counts}
use Rattle.claims.specs.DenClaims.{Kept, Figures, after, told}
use Rattle.claims.proofs.Places.{at_in, each_in}
use Rattle.claims.proofs.Order.{each_set, each_without, each_retain}
use Rattle.claims.proofs.Clocks.{dated, dated_later}
use Rattle.claims.proofs.Runs.{always}
use Rattle.claims.proofs.Bodies.{body_later, body_absorbing, body_birth}
use Rattle.claims.proofs.DenTrials.{Tried}
use Rattle.claims.proofs.DenCases.{placed_cases}

-- ---- one micro-cluster
kept_later : (n dim : ℕ) (m : DenMicro) → n ≤ clock_most → Kept n dim m → Kept (n + 1) dim m
kept_later n dim m h k =
    record { body = body_later n dim m.body h k.body; born = dated_later n m.t0 k.born }

kept_absorbs : (n dim : ℕ) (lambda t : Float) (x : List Float) (m : DenMicro) → Counts n t → Kept n dim m → Kept (n + 1) dim (absorbs lambda t x m)
kept_absorbs n dim lambda t x m c k =
    record { body = body_absorbing n dim t x c lambda m.body k.body; born = dated_later n m.t0 k.born }

kept_newborn : (n dim : ℕ) (t : Float) (x : List Float) → Counts n t → Kept (n + 1) dim (newborn dim t x)
kept_newborn n dim t x c =
    record { body = body_birth n dim t x c; born = dated n t c }

-- ---- a point taken
abbrev Both : (n dim : ℕ) → Holdings → Type 0
Both n dim h = Each (Kept n dim) h.potential × Each (Kept n dim) h.outliers

module _ (n : ℕ) (s : State) (x : List Float) (c : Counts n s.t) (g : Both n s.params.settings.dim s.held) where
  abbrev All : List DenMicro → Type 0
  All = Each (Kept (n + 1) s.params.settings.dim)

  all_later : (l : List DenMicro) → Each (Kept n s.params.settings.dim) l → All l
  all_later l e = each_more (λ (m : DenMicro) k. kept_later n s.params.settings.dim m c.limit k) l e

  grown :
      (l : List DenMicro) (b : Near DenMicro) →
      Each (Kept n s.params.settings.dim) l →
      Tried s x l b →
      Kept (n + 1) s.params.settings.dim b.micro
  grown l b e t =
      subst (Kept (n + 1) s.params.settings.dim) (sym t.grown)
      (kept_absorbs n s.params.settings.dim s.params.settings.lambda s.t x t.old c
      (each_in (Kept n s.params.settings.dim) l t.old e (at_in l b.place t.old t.at)))

  both_placed : Both (n + 1) s.params.settings.dim (placed s x)
  both_placed =
      placed_cases (Both (n + 1) s.params.settings.dim) s x
      (λ b t. (
        each_set (Kept (n + 1) s.params.settings.dim) s.held.potential b.place b.micro (grown s.held.potential b g.0 t) potential,
        outliers,
      ))
      (λ b t. (
        each_append (Kept (n + 1) s.params.settings.dim) s.held.potential (b.micro ∷ []) potential (grown s.held.outliers b g.1 t, tt),
        each_without (Kept (n + 1) s.params.settings.dim) s.held.outliers b.place outliers,
      ))
      (λ b t. (
        potential,
        each_set (Kept (n + 1) s.params.settings.dim) s.held.outliers b.place b.micro (grown s.held.outliers b g.1 t) outliers,
      ))
      (λ e. (
        potential,
        each_append (Kept (n + 1) s.params.settings.dim) s.held.outliers (newborn s.params.settings.dim s.t x ∷ []) outliers
            (kept_newborn n s.params.settings.dim s.t x c, tt),
      ))
    where
      potential : All s.held.potential
      potential = all_later s.held.potential g.0

      outliers : All s.held.outliers
      outliers = all_later s.held.outliers g.1

  both_taken : Both (n + 1) (taken_of s x).params.settings.dim (taken_of s x).held
  both_taken =
      tick_cases denstream (taking s (placed s x)) (nearest_for s x) (λ (u : State). Both (n + 1) u.params.settings.dim u.held) (
        each_retain (Kept (n + 1) s.params.settings.dim) (potential_stays s.params (s.t ⊕ one)) (placed s x).potential both_placed.0,
        each_retain (Kept (n + 1) s.params.settings.dim) (outlier_stays s.params (s.t ⊕ one)) (placed s x).outliers both_placed.1,
      ) both_placed

-- ---- the whole run
pub figures : (p : Settings) (xs : List (List Float)) → Figures (accepted_in (told p xs)) (after p xs)
figures p xs =
    let b : Both (accepted_in (told p xs)) (after p xs).params.settings.dim (after p xs).held =
    always denstream has_place (λ (n : ℕ) (s : State). Both n s.params.settings.dim s.held) (λ n s x c e g. both_taken n s x c g) p (tt, tt) xs in
    record { potential = b.0; outliers = b.1 }
