-- `reporting::report_rows` meets its contract.
use Rattle.std.proofs.Common.{arith, length}
use Rattle.monomial.specs.Reading.{rows_read}
use Rattle.reporting.proofs.Limiting.{over_limit, limited_late, limited_whole, chosen_fits}
use Rattle.reporting.proofs.report_rows.Goals as goal

pub returns-then-limit-m : goal.returns-then-limit-m
returns-then-limit-m c =
    over_limit c.args.rows.basis (length c.args.rows.ys.now) c.args.settings c.args.limit (rows_read c.args.rows) c.args.sums.now _ _
    c.choose-m.result _ _ _ _ _ c.choose-m.ensures c.if-limit-m.true _ c.clear.ensures

pub returns-in-Err : goal.returns-in-Err
returns-in-Err c =
    limited_late c.args.rows.basis (length c.args.rows.ys.now) c.args.settings c.args.limit (rows_read c.args.rows) c.args.sums.now _ _
    c.choose-m.result _ _ _ _ _ c.choose-m.ensures c.if-limit-m.false c.in-Err.is _ c.clear-in-Err.ensures

pub write-report-requires-clause-degree_in_bounds : goal.write-report-requires-clause-degree_in_bounds
write-report-requires-clause-degree_in_bounds c =
    let rows = rows_read c.args.rows in
    let d = chosen_fits c.args.rows.basis c.args.settings.criterion (length c.args.rows.ys.now) c.args.last.0 rows c.args.sums.now _ _ _ _ _ _ c.choose-m.result c.choose-m.ensures c.in-Ok.is in
    let b = c.requires.last_in_bounds in
    (omega (arith, d.0, b.1), omega (arith, d.1, b.2), omega (arith, d.1, b.3))

pub returns : goal.returns
returns c =
    limited_whole c.args.rows.basis (length c.args.rows.ys.now) c.args.settings c.args.limit (rows_read c.args.rows) c.args.sums.now _ _
    c.choose-m.result _ _ _ _ _ c.choose-m.ensures c.if-limit-m.false c.in-Ok.is c.write-report.result _ c.write-report.ensures
