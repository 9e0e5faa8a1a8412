-- `power_down` meets its contract. Assumes nothing.
use Rattle.float.proofs.PowerBits.{power_bits, power_no_nan}
use Rattle.float.proofs.two_to.power_down.Goals as goal

pub float_from_bits-result : goal.float_from_bits-result
float_from_bits-result c = power_no_nan c.args.c c.requires

pub returns : goal.returns
returns c = power_bits c.args.c c.requires
