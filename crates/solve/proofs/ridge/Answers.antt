-- `solve::ridge` meets its contract. The loop's invariant: the definition from here on is the definition at the start.
use Rattle.std.proofs.Common.{sym, ◌∙◌}
use Rattle.loops.specs.LoopLaws.{again, done}
use Rattle.solve.specs.Solve.{ridge}
use Rattle.solve.proofs.ridge.Goals as goal

pub loop-i-preserved : goal.loop-i-preserved
loop-i-preserved c = again _ _ _ _ c.loop-i-test.true ∙ c.loop-i.invariant

pub returns : goal.returns
unfolding ridge
returns c = sym (done _ _ _ _ c.loop-i-test.false) ∙ c.loop-i.invariant
