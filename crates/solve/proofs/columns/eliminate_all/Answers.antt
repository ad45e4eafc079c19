-- `solve::columns::eliminate_all` meets its contract. The invariants of the loops: for each column the definition from here on is the definition where the loop began.
use Rattle.std.proofs.Common.{◌≡◌, length-set, sym, ◌∙◌, rules, arith}
use Rattle.loops.specs.LoopLaws.{again, done, while_again, while_fails, while_done}
use Rattle.solve.specs.Solve.{clear_row, clear_below, pivot_holds, eliminate}
use Rattle.solve.specs.Columns.{column_in}
use Rattle.solve.specs.ColumnLaws.{less_row}
use Rattle.solve.proofs.columns.eliminate_all.Goals as goal

pub columns-preserved : goal.columns-preserved
columns-preserved c = again _ _ _ _ c.columns-test.true ∙ c.columns.invariant

pub beside-preserved : goal.beside-preserved
beside-preserved c = (again _ _ _ _ c.beside-test.true ∙ c.beside.invariant.0, simp length-set c.beside.invariant.1)

pub rows-preserved : goal.rows-preserved
unfolding clear_row
rows-preserved c = (
  λ j h. rw (
    sym (done _ _ _ _ c.columns-test.false) ∙ c.columns.invariant,
    sym (done _ _ _ _ c.beside-test.false) ∙ c.beside.invariant.0,
    less_row c.pivots.p c.rows.r c.args.k.0 j _ c.rows.v h c.requires (omega (arith, c.requires)) (omega (arith, c.requires)) (omega (arith, c.rows.invariant.1)),
  ) (again _ _ _ (record { m = c.rows.m; b = column_in c.rows.v j }) (search rules) ∙ c.rows.invariant.0 j h),
  c.beside.invariant.1,
)

pub pivots-preserved : goal.pivots-preserved
unfolding clear_below pivot_holds
pivots-preserved c = (
  λ s d j h. rw (sym (done _ _ _ _ c.rows-test.false) ∙ c.rows.invariant.0 j h)
      (while_again _ _ _ _ (record { m = c.pivots.m; b = column_in c.pivots.v j }) (search rules) (rw (d c.pivots.p c.pivots-test.true) c.if-not-m-pp.false) ∙ c.pivots.invariant.0 s d j h),
  c.pivots.invariant.1,
  c.rows.invariant.1,
)

pub returns-then-not-m-pp : goal.returns-then-not-m-pp
unfolding eliminate pivot_holds
returns-then-not-m-pp c s d j h = sym (while_fails _ _ _ _ _ (search rules) (rw (d c.pivots.p c.pivots-test.true) c.if-not-m-pp.true)) ∙ c.pivots.invariant.0 s d j h

pub returns-after-pivots : goal.returns-after-pivots
unfolding eliminate
returns-after-pivots c s d j h =
    let end : c.pivots.held ≡ c.pivots.p = omega (arith, c.pivots.auto.p-end, c.pivots-test.false, c.pivots.invariant.1) in
    rw end (sym (while_done _ _ _ _ _ c.pivots-test.false) ∙ c.pivots.invariant.0 s d j h)
