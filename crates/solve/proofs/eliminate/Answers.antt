-- `solve::eliminate` meets its contract. The invariants of the three loops: the definition from here on is the definition where the loop began.
use Rattle.std.proofs.Common.{◌≡◌, sym, ◌∙◌, rules, arith}
use Rattle.loops.specs.LoopLaws.{again, done, while_again, while_fails, while_done}
use Rattle.solve.specs.Solve.{clear_row, clear_below, pivot_holds, eliminate}
use Rattle.solve.proofs.eliminate.Goals as goal

pub columns-preserved : goal.columns-preserved
columns-preserved c = again _ _ _ _ c.columns-test.true ∙ c.columns.invariant

pub rows-preserved : goal.rows-preserved
unfolding clear_row
rows-preserved c = rw (sym (done _ _ _ _ c.columns-test.false) ∙ c.columns.invariant) (again _ _ _ (record { m = c.rows.m; b = c.rows.b }) (search rules) ∙ c.rows.invariant)

pub pivots-preserved : goal.pivots-preserved
unfolding clear_below pivot_holds
pivots-preserved c = rw (sym (done _ _ _ _ c.rows-test.false) ∙ c.rows.invariant)
    (while_again _ _ _ _ (record { m = c.pivots.m; b = c.pivots.b }) (search rules) c.if-not-m-pp.false ∙ c.pivots.invariant.0, c.pivots.invariant.1)

pub returns-then-not-m-pp : goal.returns-then-not-m-pp
unfolding eliminate pivot_holds
returns-then-not-m-pp c = sym (while_fails _ _ _ _ _ (search rules) c.if-not-m-pp.true) ∙ c.pivots.invariant.0

pub returns-after-pivots : goal.returns-after-pivots
unfolding eliminate
returns-after-pivots c =
    let end : c.pivots.held ≡ c.pivots.p = omega (arith, c.pivots.auto.p-end, c.pivots-test.false, c.pivots.invariant.1) in
    rw end (sym (while_done _ _ _ _ _ c.pivots-test.false) ∙ c.pivots.invariant.0)
