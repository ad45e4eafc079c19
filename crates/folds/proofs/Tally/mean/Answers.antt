-- `folds::Tally::mean` meets its contract.
use Rattle.std.proofs.Common.{le-ltb, lt-ltb}
use Rattle.folds.specs.Folds.{mean_of}
use Rattle.folds.proofs.Tally.mean.Goals as goal

pub returns-then-self-gt0 : goal.returns-then-self-gt0
unfolding mean_of
returns-then-self-gt0 c = rw (lt-ltb 0 c.args.self.count c.if-self-gt0.true, c.nearest_u64_to_f64.ensures)

pub returns : goal.returns
unfolding mean_of
returns c = rw (le-ltb 0 c.args.self.count c.if-self-gt0.false)
