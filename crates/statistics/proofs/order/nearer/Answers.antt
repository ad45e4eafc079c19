-- `statistics::order::nearer` meets its contract. By the test.
use Rattle.statistics.specs.Counting.{nearer}
use Rattle.statistics.proofs.order.nearer.Goals as goal

pub returns-then-b-k : goal.returns-then-b-k
unfolding nearer
returns-then-b-k c = rw c.if-b-k.true

pub returns-else-b-k : goal.returns-else-b-k
unfolding nearer
returns-else-b-k c = rw c.if-b-k.false
