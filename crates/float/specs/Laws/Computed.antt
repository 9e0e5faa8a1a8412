-- One name that opens every operation of doubles and every definition of this crate, for theorems that compute.
use Rattle.std.specs.Float.Ieee.{add, sub, mul, div, neg, lt, le, eq, rem, is_nan, of_int, of_bits}
use Rattle.float.specs.Cut.{cut_of}
use Rattle.float.specs.TwoTo.{step, steps, two_to}
use Rattle.float.specs.Ln.{exponent_of, series, ln_by, ln_of, log2_of}
use Rattle.float.specs.Ceil.{ceil_of}

-- `unfolding computed` opens them all
unfoldable pub computed : Unit {0}
unfolding add sub mul div neg lt le eq rem is_nan of_int of_bits cut_of step steps two_to exponent_of series ln_by ln_of log2_of ceil_of
computed = tt
