-- `cut` meets its contract: case by case by the law `by_exponent`. Assumes nothing.
use Rattle.std.proofs.Common.{◌≡◌, ℕ, ◌+◌, ◌-◌, ◌/◌, ◌^◌, not, T, sym, subst, le_trans, div-le_self, arith, le→leb}
use lib.Ieee.{Float, nan, inf, fin, lt, is_nan, of_bits, neg, in_float}
use Rattle.float.specs.Rounded.{nought}
use Rattle.float.specs.Binary64.{bias, digits, biased, significand}
use Rattle.float.specs.Cut.{ByExponent}
use Rattle.float.specs.Laws.TowardsZero.{by_exponent}
use Rattle.float.proofs.two_to.cut.Goals.{Else-below_one, Start}
use Rattle.float.proofs.two_to.cut.Goals as goal

known : (c : goal.Start) → ByExponent c.args.y
known c = by_exponent c.args.y (subst T (sym c.well_formed.0.1) tt) c.requires

no_nan : (y : Float) → T (lt y nought) → T (not (is_nan (neg y)))
unfolding lt is_nan neg
no_nan nan t = absurd t
no_nan (inf s) t = tt
no_nan (fin s m e) t = tt

pub float_to_bits-bits : goal.float_to_bits-bits
float_to_bits-bits c = no_nan c.args.y c.requires

-- the exponent that the code works out
abbrev exponent : goal.Start → ℕ
exponent c = biased (neg c.args.y) - bias

exponent_is : (c : goal.Else-below_one) → biased (neg c.args.y) ≡ exponent (goal.at.Else-below_one c).Start + bias
exponent_is c = omega (arith, c.if-below_one.false)

pub returns-then-below_one : goal.returns-then-below_one
unfolding of_bits neg
returns-then-below_one c = sym ((known (goal.at.returns-then-below_one c).Start).below_0 (omega (arith, c.if-below_one.true)))

pub int_to_float-result : goal.int_to_float-result
unfolding in_float
int_to_float-result c =
    let n = significand (neg c.args.y) in
    let d = 2 ^ (digits - exponent (goal.at.int_to_float-result c).Start) in
    le→leb (n / d) 0x20_0000_0000_0000 (le_trans (div-le_self n d) (omega arith))

pub returns-then-has_fraction : goal.returns-then-has_fraction
returns-then-has_fraction c =
    sym ((known (goal.at.returns-then-has_fraction c).Start).from_0_to_51 (exponent (goal.at.returns-then-has_fraction c).Start)
    (exponent_is (goal.at.returns-then-has_fraction c).Else-below_one) (omega (arith, c.if-has_fraction.true)))

pub returns : goal.returns
returns c =
    sym ((known (goal.at.returns c).Start).from_52 (exponent (goal.at.returns c).Start) (exponent_is (goal.at.returns c).Else-below_one)
    (omega (arith, c.if-has_fraction.false)))
