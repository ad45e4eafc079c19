-- `statistics::order::Deviations::edges` meets its contract. The invariant: low is the greatest under b and high the least from lo on, so far.
use Rattle.std.proofs.Common.{refl}
use Rattle.loops.specs.Fold.{fold}
use Rattle.statistics.specs.Counting.{distances, least_from, greatest_under}
use Rattle.statistics.proofs.Counts.{least_turn, greatest_turn}
use Rattle.statistics.proofs.Deviations.{plain_at}
use Rattle.statistics.proofs.order.Deviations.edges.Goals as goal

pub loop-x-init : goal.loop-x-init
unfolding least_from greatest_under fold distances
loop-x-init c = (refl, refl)

pub key-k-requires : goal.key-k-requires
key-k-requires c = plain_at _ _ _ c.loop-x-test.true c.self.invariant

pub loop-x-preserved : goal.loop-x-preserved
loop-x-preserved c = (
  rw (c.farther-low.ensures, c.key-k.ensures.is, c.loop-x.invariant.0) (greatest_turn _ _ _ c.loop-x-test.true c.args.b),
  rw (c.nearer-high.ensures, c.key-k.ensures.is, c.loop-x.invariant.1) (least_turn _ _ _ c.loop-x-test.true c.args.lo),
)
