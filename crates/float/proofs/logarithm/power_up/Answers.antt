-- `power_up` meets its contract. Assumes nothing.
use Rattle.float.proofs.PowerBits.{power_up_bits, power_up_no_nan}
use Rattle.float.proofs.logarithm.power_up.Goals as goal

pub float_from_bits-result : goal.float_from_bits-result
float_from_bits-result c = power_up_no_nan c.args.e c.requires

pub returns : goal.returns
returns c = power_up_bits c.args.e c.requires
