-- Connectivity is the same whichever number comes first, and coordinates play no part in it. Assumes nothing.
use Rattle.std.specs.Prelude.{ℕ, ◌≡◌, refl, ◌≢◌, Bool, true, false, not, ◌&&◌, cond, List, map, eqb, ltb, Float}
use Rattle.std.proofs.Common.{arith, sym, ap, ap₂, ◌∙◌, ltb-true, ltb-false, eqb-true, eq-eqb, ne_eqb}
use Rattle.std.proofs.Math.Bool.{and_comm, and-false}
use Rattle.std.proofs.lemmas.Bool.{eqb-false}
use Rattle.float.specs.Rounded.{◌⊕◌, ◌⊘◌, nought, two}
use Rattle.float.specs.Laws.Sums.{⊕_comm}
use Rattle.lists.specs.Laws.Maps.{map_first}
use Rattle.model.specs.declared.micro.MicroId.{MicroId}
use Rattle.model.specs.declared.micro.DbMicro.{DbMicro}
use Rattle.model.specs.DbState.{State}
use Rattle.model.specs.DbInsert.{is_held, pair_of}
use Rattle.db_micro.specs.Held.{cut_to}
use Rattle.db_micro.specs.Laws.Held.{held_view}
use Rattle.db_readout.specs.Connectivity.{are_live, is_of, weighs, weight_now, mean_now, connectivity_of}

-- ---- the micro-clusters of dim coordinates that an array holds
module _ (dim : ℕ) (ms : List DbMicro) where
  pub live_view : (a b : MicroId) → are_live ms a b ≡ are_live (map (cut_to dim) ms) a b
  live_view a b = ap₂ (λ (p q : Bool). p && q && not (eqb a.0 b.0)) (held_view dim ms a) (held_view dim ms b)

  module _ (lambda t : Float) where
    weight_view : (id : MicroId) → weight_now lambda t ms id ≡ weight_now lambda t (map (cut_to dim) ms) id
    weight_view id = map_first (cut_to dim) (is_of id) (weighs lambda t) nought ms

    pub mean_view : (a b : MicroId) → mean_now lambda t ms a b ≡ mean_now lambda t (map (cut_to dim) ms) a b
    mean_view a b = ap₂ (λ (wa wb : Float). (wa ⊕ wb) ⊘ two) (weight_view a) (weight_view b)

-- ---- either order
-- numbers that differ are one pair
pair_either : (a b : MicroId) → a.0 ≢ b.0 → pair_of a b ≡ pair_of b a
pair_either a b apart = go (ltb a.0 b.0) (ltb b.0 a.0) refl refl
  where
    go : (x y : Bool) → ltb a.0 b.0 ≡ x → ltb b.0 a.0 ≡ y → cond {A = MicroId × MicroId} x (a, b) (b, a) ≡ cond y (b, a) (a, b)
    go true true e g = absurd (omega (arith, ltb-true a.0 b.0 e, ltb-true b.0 a.0 g))
    go true false e g = refl
    go false true e g = refl
    go false false e g = absurd (apart (omega (arith, ltb-false a.0 b.0 e, ltb-false b.0 a.0 g)))

-- the same number twice is not "different"
same_not_live : (ms : List DbMicro) (a b : MicroId) → a.0 ≡ b.0 → are_live ms a b ≡ false
same_not_live ms a b same = ap (λ (e : Bool). is_held ms a && is_held ms b && not e) (eq-eqb _ _ same) ∙ and-false (is_held ms a && is_held ms b)

live_either : (ms : List DbMicro) (a b : MicroId) → a.0 ≢ b.0 → are_live ms a b ≡ are_live ms b a
live_either ms a b apart =
    ap₂ (λ (live e : Bool). live && not e) (and_comm (is_held ms a) (is_held ms b)) (ne_eqb _ _ apart ∙ sym (ne_eqb _ _ (λ e. apart (sym e))))

pub either_order : (s : State) (a b : MicroId) → connectivity_of s a b ≡ connectivity_of s b a
unfolding connectivity_of
either_order s a b = go (eqb a.0 b.0) refl
  where
    ms : List DbMicro
    ms = s.held.micros

    weight : MicroId → Float
    weight id = weight_now s.params.settings.lambda s.t ms id

    go : (x : Bool) → eqb a.0 b.0 ≡ x → connectivity_of s a b ≡ connectivity_of s b a
    go true e =
        let same : a.0 ≡ b.0 = eqb-true _ _ e in
        rw (same_not_live ms a b same, same_not_live ms b a (sym same))
    go false e =
        let apart : a.0 ≢ b.0 = eqb-false _ _ e in
        rw (live_either ms a b apart, pair_either a b apart, ⊕_comm (weight a) (weight b))
