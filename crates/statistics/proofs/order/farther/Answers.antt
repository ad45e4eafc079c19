-- `statistics::order::farther` meets its contract. By the test.
use Rattle.statistics.specs.Counting.{farther}
use Rattle.statistics.proofs.order.farther.Goals as goal

pub returns-then-k-b : goal.returns-then-k-b
unfolding farther
returns-then-k-b c = rw c.if-k-b.true

pub returns-else-k-b : goal.returns-else-k-b
unfolding farther
returns-else-k-b c = rw c.if-k-b.false
