-- `statistics::order::at_most` meets its contract.
use Rattle.statistics.proofs.Deviations.{bits_some, bits_order}
use Rattle.statistics.proofs.order.at_most.Goals as goal

pub float_from_bits-result : goal.float_from_bits-result
float_from_bits-result c = bits_some _ c.requires.0

pub float_from_bits-result-2 : goal.float_from_bits-result-2
float_from_bits-result-2 c = bits_some _ c.requires.1

pub returns : goal.returns
returns c = bits_order c.args.k c.args.b c.requires.0 c.requires.1
