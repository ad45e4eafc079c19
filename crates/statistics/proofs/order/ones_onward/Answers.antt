-- `statistics::order::ones_onward` meets its contract.
use Rattle.statistics.proofs.Deviations.{bits_some}
use Rattle.statistics.proofs.Pairs.{ones_onward_are}
use Rattle.statistics.proofs.order.ones_onward.Goals as goal

pub float_from_bits-result : goal.float_from_bits-result
float_from_bits-result c = bits_some _ c.requires.2

pub returns : goal.returns
returns c = ones_onward_are c.args.v c.args.lo c.requires.0 c.requires.1 c.requires.2
