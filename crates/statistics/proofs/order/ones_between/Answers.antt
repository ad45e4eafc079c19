-- `statistics::order::ones_between` meets its contract.
use Rattle.statistics.proofs.Deviations.{bits_some}
use Rattle.statistics.proofs.Pairs.{ones_between_are}
use Rattle.statistics.proofs.order.ones_between.Goals as goal

pub float_from_bits-result : goal.float_from_bits-result
float_from_bits-result c = bits_some _ c.requires.2

pub returns : goal.returns
returns c = ones_between_are c.args.v c.args.lo c.args.hi c.requires.0 c.requires.1 c.requires.2 _ c.ones_upto.ensures
