-- `statistics::order::Deviations::middles_in` meets its contract.
use Rattle.statistics.proofs.Counts.{edges_found, single_stands}
use Rattle.statistics.proofs.order.Deviations.middles_in.Goals as goal

pub returns-then-r-m : goal.returns-then-r-m
returns-then-r-m c = edges_found _ c.edges.ensures.plain _ _ _ _ _ c.narrow-r.ensures.is c.requires.0 c.if-r-m.true _ _ c.edges.ensures.low c.edges.ensures.high

pub returns : goal.returns
returns c = single_stands _ _ _ _ _ _ c.narrow-r.ensures.is c.if-r-m.false c.narrow-r.ensures.stops
