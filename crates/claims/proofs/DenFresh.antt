-- A DenStream from fresh: its clock and its pools' places, through every insert.
use Prim.Native.Nat.{ℕ, ◌+◌, ◌<◌, ◌≤◌}
use mathlib.Core.Path.{◌≡◌, refl, sym, ap, ◌∙◌}
use mathlib.Core.Bool.{Bool, true, ◌||◌}
use mathlib.Core.List.{List, [], ◌∷◌}
use native.Mathlib.Omega.{arith}
use lib.Dec.{ltb}
use lib.ListN.{length, length-set, length-append}
use lib.Ieee.{Float}
use borrow.Author.Tests.{ltb-true}
use Rattle.float.specs.Rounded.{◌⊕◌, one}
use Rattle.lists.specs.Laws.Sizes.{retain_length, without_length}
use Rattle.model.specs.Limits.{micros_most}
use Rattle.model.specs.Nearest.{nearest_of}
use Rattle.model.specs.Run.{accepted_in}
use Rattle.model.specs.Stream.{taking}
use Rattle.model.proofs.Laws.Stream.{tick_cases}
use Rattle.model.specs.DenState.{Settings, Holdings, State}
use Rattle.model.specs.DenInsert.{newborn, placed, nearest_for, potential_stays, outlier_stays}
use Rattle.model.specs.Denstream.{denstream, fresh, taken_of, has_place}
use Rattle.claims.specs.DenClaims.{FromFresh, after, told}
use Rattle.claims.proofs.Places.{at_below}
use Rattle.claims.proofs.Runs.{always, clock_counts}
use Rattle.claims.proofs.DenCases.{placed_cases}
use Rattle.std.specs.Prelude.{None}

-- ---- at most 64 in both pools together
abbrev Few : Holdings → Type 0
Few h = length h.potential + length h.outliers ≤ micros_most

few_placed : (s : State) (x : List Float) → has_place s x ≡ true → Few s.held → Few (placed s x)
few_placed s x e h =
    placed_cases Few s x
    (λ b f. omega (arith, h, length-set s.held.potential b.place b.micro))
    (λ b f. omega (
      arith,
      h,
      length-append s.held.potential (b.micro ∷ []),
      without_length b.place s.held.outliers
          (at_below s.held.outliers b.place f.old f.at),
    ))
    (λ b f. omega (arith, h, length-set s.held.outliers b.place b.micro))
    (λ q.
    let l : length s.held.potential + length s.held.outliers < micros_most =
    ltb-true (length s.held.potential + length s.held.outliers) micros_most
    (sym (ap (λ (b : Bool). b || ltb (length s.held.potential + length s.held.outliers) micros_most) q) ∙ e) in
    omega (arith, length-append s.held.outliers (newborn s.params.settings.dim s.t x ∷ [])))

few_taken : (s : State) (x : List Float) → has_place s x ≡ true → Few s.held → Few (taken_of s x).held
few_taken s x e h =
    let f : Few (placed s x) = few_placed s x e h in
    tick_cases denstream (taking s (placed s x)) (nearest_for s x) (λ (u : State). Few u.held)
    (omega (
      arith,
      f,
      retain_length (potential_stays s.params (s.t ⊕ one)) (placed s x).potential,
      retain_length (outlier_stays s.params (s.t ⊕ one))
          (placed s x).outliers,
    )) f

-- ---- a fresh one holds nothing near
pub none_near : (p : Settings) (x : List Float) → nearest_for (fresh p) x ≡ None
unfolding nearest_for nearest_of
none_near p x = refl

-- ---- the whole run
pub from_fresh : (p : Settings) (xs : List (List Float)) → FromFresh (accepted_in (told p xs)) (after p xs)
from_fresh p xs =
    record {
      clock = clock_counts denstream has_place p xs;
      places = always denstream has_place (λ (n : ℕ) (s : State). Few s.held) (λ n s x c e. few_taken s x e) p (omega arith) xs;
    }
