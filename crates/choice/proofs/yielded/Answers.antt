-- `choice::yielded` meets its contract.
use Rattle.choice.specs.Choice.{yields}
use Rattle.choice.proofs.yielded.Goals as goal

pub returns-in_default : goal.returns-in_default
unfolding yields
returns-in_default c = rw c.in_default.is

pub returns-then-score-a : goal.returns-then-score-a
unfolding yields
returns-then-score-a c = rw (c.in-Some.is, c.if-score-a.true)

pub returns : goal.returns
unfolding yields
returns c = rw (c.in-Some.is, c.if-score-a.false)
