-- `statistics::max_degree` meets its contract. Arm by arm; the code takes the lesser of root and cap first.
use Rattle.std.proofs.Common.{arith, rules}
use Rattle.statistics.specs.Degrees.{max_degree}
use Rattle.statistics.proofs.Roots.{root_one}
use Rattle.statistics.proofs.max_degree.Goals as goal

pub returns-in-Conservative : goal.returns-in-Conservative
unfolding max_degree
returns-in-Conservative c = rw c.in-Conservative.is (omega arith)

pub returns-in-Relaxed : goal.returns-in-Relaxed
unfolding max_degree
returns-in-Relaxed c = rw c.in-Relaxed.is (omega arith)

pub returns-in-Aggressive : goal.returns-in-Aggressive
unfolding max_degree
returns-in-Aggressive c = rw c.in-Aggressive.is (omega (arith, root_one c.args.n))

pub returns-in-Custom : goal.returns-in-Custom
unfolding max_degree
returns-in-Custom c = search rules
