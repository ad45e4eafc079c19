-- `report::report` meets its contract.
use Rattle.samples.specs.Held.{held}
use Rattle.report.proofs.Reporting.{unlimited}
use Rattle.report.proofs.report.Goals as goal

pub returns : goal.returns
returns c = unlimited c.args.book.count c.args.settings (held c.args.columns) c.args.sums.now c.report_within.result _ c.report_within.ensures
