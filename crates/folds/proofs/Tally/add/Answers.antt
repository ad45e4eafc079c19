-- `folds::Tally::add` meets its contract.
use Rattle.folds.specs.Tallies.{added}
use Rattle.folds.proofs.Tally.add.Goals as goal

pub returns-in_default : goal.returns-in_default
unfolding added
returns-in_default c = rw c.in_default.is

pub returns : goal.returns
unfolding added
returns c = rw c.in-Some.is
