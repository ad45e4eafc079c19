-- `choice::is_near` meets its contract.
use Rattle.choice.specs.Choice.{near}
use Rattle.choice.proofs.is_near.Goals as goal

pub returns-in_default : goal.returns-in_default
unfolding near
returns-in_default c = rw c.in_default.is

pub returns : goal.returns
unfolding near
returns c = rw c.in-Some.is
