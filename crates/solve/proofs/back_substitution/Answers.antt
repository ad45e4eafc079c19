-- `solve::back_substitution` meets its contract. The invariants: the definition from here on is the definition where the loop began.
use Rattle.std.proofs.Common.{sym, ◌∙◌, ◌-◌, arith}
use Rattle.loops.specs.LoopLaws.{again, done}
use Rattle.solve.specs.Solve.{back_row, back}
use Rattle.solve.proofs.Steps.{back_again}
use Rattle.solve.proofs.back_substitution.Goals as goal

pub loop-c-preserved : goal.loop-c-preserved
loop-c-preserved c = again _ _ _ _ c.loop-c-test.true ∙ c.loop-c.invariant

pub loop-r-preserved : goal.loop-r-preserved
unfolding back_row
loop-r-preserved c = rw (sym (done _ _ _ _ c.loop-c-test.false) ∙ c.loop-c.invariant)
    (back_again c.args.k.0 c.loop-r.r c.args.m.now c.loop-r.b c.loop-r-test.true (omega arith) ∙ c.loop-r.invariant)

pub returns : goal.returns
unfolding back
returns c = sym (done (λ i. back_row c.args.k.0 c.args.m.now (c.args.k.0 - 1 - i)) (c.args.k.0 - c.loop-r.r) _ _ (omega arith)) ∙ c.loop-r.invariant
