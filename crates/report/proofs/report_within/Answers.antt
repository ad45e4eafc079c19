-- `report::report_within` meets its contract.
use Rattle.std.proofs.Common.{refl, sym, arith}
use lib.Seq.{length-take-le}
use Rattle.samples.specs.Held.{held}
use Rattle.basis.specs.CountLaws.{curve_count}
use Rattle.statistics.specs.DegreeLaws.{max_degree_below}
use Rattle.reporting.specs.Outputs.{outputs_now}
use Rattle.report.specs.Reports.{report_choice}
use Rattle.report.proofs.Reporting.{within_refused, has_room, within_past_lem}
use Rattle.report.proofs.report_within.Goals as goal

pub returns-in-Err : goal.returns-in-Err
returns-in-Err c =
    within_refused c.args.book.count c.args.settings c.args.limit (held c.args.columns) c.args.sums.now _ (rw c.places.ensures at c.check_report.ensures) c.in-Err.is

pub curve-rows-requires : goal.curve-rows-requires
curve-rows-requires c =
    let w = has_room c.args.book.count c.args.settings c.args.limit (held c.args.columns) c.args.sums.now (outputs_now c.args.memory) (rw c.places.ensures at c.check_report.ensures) c.in_default.is in
    (w.room.within.0, w.room.within.1.0)

pub slice_bounds-report_rows-end : goal.slice_bounds-report_rows-end
slice_bounds-report_rows-end c =
    let w = has_room c.args.book.count c.args.settings c.args.limit (held c.args.columns) c.args.sums.now (outputs_now c.args.memory) (rw c.places.ensures at c.check_report.ensures) c.in_default.is in
    sym (length-take-le 272 c.args.sums.now w.room.enough.0)

pub report_rows-counted-requires-clause-last_in_bounds : goal.report_rows-counted-requires-clause-last_in_bounds
report_rows-counted-requires-clause-last_in_bounds c =
    let w = has_room c.args.book.count c.args.settings c.args.limit (held c.args.columns) c.args.sums.now (outputs_now c.args.memory) (rw c.places.ensures at c.check_report.ensures) c.in_default.is in
    let b = max_degree_below c.args.settings.bound c.args.book.count w.some in
    let k = curve_count c.max_degree-last.result.0 in
    rw (c.curve-rows.ensures.long, c.curve-rows.ensures.curved) (omega (arith, length-take-le 272 c.args.sums.now w.room.enough.0), omega (arith, c.max_degree-last.ensures, w.most), omega (arith, c.max_degree-last.ensures, k, b), omega (arith, c.max_degree-last.ensures, w.most, k))

pub report_rows-counted-requires-clause-outputs_fit : goal.report_rows-counted-requires-clause-outputs_fit
report_rows-counted-requires-clause-outputs_fit c =
    let w = has_room c.args.book.count c.args.settings c.args.limit (held c.args.columns) c.args.sums.now (outputs_now c.args.memory) (rw c.places.ensures at c.check_report.ensures) c.in_default.is in
    let e = w.room.enough.1 in
    rw (c.curve-rows.ensures.long, c.curve-rows.ensures.curved) (e.0, e.1.0, e.1.1.0, e.1.1.1.0, e.1.1.1.1.0, e.1.1.1.1.1.0, e.1.1.1.1.1.1.0)

pub returns : goal.returns
unfolding report_choice
returns c =
    within_past_lem c.args.book.count c.args.settings c.args.limit (held c.args.columns) c.args.sums.now (outputs_now c.args.memory)
    (rw c.places.ensures at c.check_report.ensures) c.in_default.is _ refl c.report_rows-counted.result _ (rw (c.curve-rows.ensures.rows, c.curve-rows.ensures.long, c.curve-rows.ensures.curved, c.max_degree-last.ensures) at c.report_rows-counted.ensures)
