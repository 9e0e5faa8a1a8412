-- `ln` meets its contract. Assumes nothing.
use Rattle.std.proofs.Common.{◌≡◌, Bool, true, false, cond, ◌&&◌, sym, ap, ◌∙◌}
use lib.Ieee.{Float, binary64, of_bits, le, div}
use Rattle.float.specs.Rounded.{one}
use Rattle.float.specs.Order.{is_finite}
use Rattle.float.specs.Ln.{ln_of, ln_by, exponent_of, plus_power}
use Rattle.float.proofs.logarithm.ln.Goals.{Joined-v, then-v, else-v}
use Rattle.float.proofs.logarithm.ln.Goals as goal

-- the definition by what its test says
by_test : (v : Float) (b : Bool) → (le one v && is_finite v) ≡ b → ln_of v ≡ cond b (ln_by (exponent_of v) (div binary64 v (plus_power (exponent_of v)))) v
unfolding ln_of
by_test v b p = ap (λ (t : Bool). cond t (ln_by (exponent_of v) (div binary64 v (plus_power (exponent_of v)))) v) p

-- the code's test is the definition's
test : (c : goal.Joined-v) → (le one c.args.v && is_finite c.args.v) ≡ c.if-v.value
unfolding of_bits
test c = elim c.if-v.branch [
  | then-v w ↦ ap (λ (b : Bool). b && is_finite c.args.v) w.if-v.true ∙ sym w.is_finite.ensures ∙ sym w.value-is
  | else-v w ↦ ap (λ (b : Bool). b && is_finite c.args.v) w.if-v.false ∙ sym w.if-v.false ∙ sym w.value-is
]

pub returns-then-not-is_finite : goal.returns-then-not-is_finite
returns-then-not-is_finite c = sym (by_test c.args.v false (test (goal.at.returns-then-not-is_finite c).Joined-v ∙ c.if-not-is_finite.true))

pub returns : goal.returns
unfolding ln_by of_bits
returns c =
    rw (c.log_series.ensures, c.power_up.ensures, c.exponent-e.ensures.0)
    (sym (by_test c.args.v true (test (goal.at.returns c).Joined-v ∙ c.if-not-is_finite.false)))
