-- `exp2` meets its contract. Assumes nothing.
use Rattle.std.proofs.Common.{◌≡◌, Bool, true, false, cond, T, sym, refl, ◌∙◌, subst}
use lib.Ieee.{Float, binary64, lt, neg, of_bits, of_int, round}
use Rattle.float.specs.Rounded.{◌⊖◌, ◌⊗◌, nought, one}
use Rattle.float.specs.Cut.{cut_of, wholes}
use Rattle.float.specs.TwoTo.{steps, L, least, minus_power, two_to}
use Rattle.float.proofs.Least.{Small, small_cut}
use Rattle.float.proofs.two_to.exp2.Goals.{After-truncating_f64_to_u64-c, Else-k}
use Rattle.float.proofs.two_to.exp2.Goals as goal

-- the definition, by what its two tests say of y and of k
by_tests : (y k : Float) (a b : Bool) →
    lt y nought ≡ a →
    k ≡ cut_of y →
    lt k least ≡ b →
    two_to y ≡ cond a (cond b nought (steps ((y ⊖ k) ⊗ L) 20 one ⊗ minus_power (wholes k))) one
unfolding two_to
by_tests y k a b p e q = rw (← q, ← p, e)

-- the code's −1022
limit : neg (of_bits binary64 0x408f_f000_0000_0000) ≡ least
unfolding of_bits of_int neg round
limit = refl

pub cut-k-requires : goal.cut-k-requires
cut-k-requires c = subst T (sym c.if-y.true) tt

pub returns-then-k : goal.returns-then-k
returns-then-k c =
    sym (by_tests c.args.y c.cut-k.result true true c.if-y.true c.cut-k.ensures (rw limit at c.if-k.true))

left : (c : goal.Else-k) → lt c.cut-k.result least ≡ false
left c = rw limit at c.if-k.false

small : (c : goal.Else-k) → Small c.cut-k.result
small c =
    subst Small (sym c.cut-k.ensures) (small_cut c.args.y c.if-y.true (rw c.cut-k.ensures at (left c)))

pub truncating_f64_to_u64-c-requires : goal.truncating_f64_to_u64-c-requires
truncating_f64_to_u64-c-requires c = record { lower_bound = (small c).over; upper_bound = (small c).under }

number : (c : goal.After-truncating_f64_to_u64-c) → c.truncating_f64_to_u64-c.result ≡ wholes c.cut-k.result
number c = c.truncating_f64_to_u64-c.ensures ∙ (small (goal.at.After-truncating_f64_to_u64-c c).Else-k).number

pub power_down-requires : goal.power_down-requires
power_down-requires c = rw (number (goal.at.power_down-requires c).After-truncating_f64_to_u64-c) (small (goal.at.power_down-requires c).Else-k).small

pub returns-then-y : goal.returns-then-y
returns-then-y c =
    rw (c.horner.ensures, c.power_down.ensures, number (goal.at.returns-then-y c).After-truncating_f64_to_u64-c)
    (sym (by_tests c.args.y c.cut-k.result true false c.if-y.true c.cut-k.ensures (left (goal.at.returns-then-y c).Else-k)))

pub returns : goal.returns
returns c = sym (by_tests c.args.y (cut_of c.args.y) false (lt (cut_of c.args.y) least) c.if-y.false refl refl)
