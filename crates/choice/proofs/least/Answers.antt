-- `choice::least` meets its contract.
use Rattle.std.proofs.Common.{sym, ◌∙◌}
use Rattle.choice.specs.Choice.{least_of}
use Rattle.loops.specs.LoopLaws.{again, done}
use lib.Ieee.{of_bits}
use Rattle.choice.proofs.least.Goals as goal

pub loop-score-preserved : goal.loop-score-preserved
loop-score-preserved c = rw c.yielded-a.ensures (again _ _ _ _ c.loop-score-test.true ∙ c.loop-score.invariant)

pub returns : goal.returns
unfolding least_of of_bits
returns c = sym (done _ _ _ _ c.loop-score-test.false) ∙ c.loop-score.invariant
