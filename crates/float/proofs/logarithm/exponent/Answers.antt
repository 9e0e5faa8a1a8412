-- `exponent` meets its contract. Assumes nothing.
use Rattle.std.proofs.Common.{T, sym, subst, arith}
use Rattle.float.proofs.Exponent.{Scaled, scaled}
use Rattle.float.proofs.logarithm.exponent.Goals.{Start}
use Rattle.float.proofs.logarithm.exponent.Goals as goal

known : (c : goal.Start) → Scaled c.args.v
known c = scaled c.args.v (subst T (sym c.well_formed.0.1) tt) c.requires.from_one c.requires.finite

pub float_to_bits-result : goal.float_to_bits-result
float_to_bits-result c = (known c).no_nan

pub overflow_sub-result : goal.overflow_sub-result
overflow_sub-result c = omega (arith, (known c).stored)

pub returns : goal.returns
returns c = (omega (arith, (known c).stored), omega (arith, (known c).stored, (known c).small))
