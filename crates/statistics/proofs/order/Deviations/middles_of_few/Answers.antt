-- `statistics::order::Deviations::middles_of_few` meets its contract.
use Rattle.statistics.proofs.Ordered.{middles_stand}
use Rattle.statistics.proofs.order.Deviations.middles_of_few.Goals as goal

pub returns : goal.returns
returns c = rw c.saturating_sub.ensures (middles_stand _ c.len.ensures.plain _ c.put_in_order.ensures.moved c.put_in_order.ensures.rising _ c.requires.0)
