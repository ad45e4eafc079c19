-- `statistics::huber_loss` meets its contract. By the test on delta.
use Rattle.statistics.specs.Losses.{huber_loss}
use Rattle.statistics.proofs.huber_loss.Goals as goal

pub returns-then-s-delta : goal.returns-then-s-delta
unfolding huber_loss
returns-then-s-delta c = rw (← c.abs-s.ensures, c.if-s-delta.true)

pub returns : goal.returns
unfolding huber_loss
returns c = rw (← c.abs-s.ensures, c.if-s-delta.false)
