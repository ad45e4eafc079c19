-- `season_report::report` meets its contract: seven parts are lent to the book's report and put back.
use Rattle.reporting.specs.Outputs.{outputs_now}
use Rattle.stakes.proofs.Pieces.{lends}
use Rattle.season_report.proofs.Reporting.{report_refused, report_done}
use Rattle.season_report.proofs.report.Goals as goal

pub returns-in_err-s : goal.returns-in_err-s
returns-in_err-s c = report_refused c.stake.ensures c.args.settings (outputs_now c.args.memory) c.in_err-s.was c.from_residual.ensures.1

pub returns : goal.returns
returns c =
    report_done c.stake.ensures c.args.settings (outputs_now c.args.memory) c.in_ok-s.was
    (lends c.args.stake c.args.memory.scratch.now _ _ _ c.cut-t.ensures)
    (lends c.args.stake c.args.memory.coefficients.now _ _ _ c.cut-c.ensures)
    (lends c.args.stake c.args.memory.errors.now _ _ _ c.cut-e.ensures)
    (lends c.args.stake c.args.memory.pruned.now _ _ _ c.cut-p.ensures)
    (lends c.args.stake c.args.memory.lower.now _ _ _ c.cut-l.ensures)
    (lends c.args.stake c.args.memory.upper.now _ _ _ c.cut-u.ensures)
    (lends c.args.stake c.args.memory.outliers.now _ _ _ c.cut-o.ensures)
    c.report_into.ensures
