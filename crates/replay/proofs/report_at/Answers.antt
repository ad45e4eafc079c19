-- `replay::report_at` meets its contract.
use Rattle.reporting.specs.Outputs.{outputs_now}
use Rattle.report.specs.Reports.{report_out}
use Rattle.samples.specs.Held.{held}
use Rattle.replay.proofs.Calling.{report_into}
use Rattle.replay.proofs.report_at.Goals as goal

pub returns : goal.returns
returns c = report_into c.args.book.count c.args.at c.args.p (outputs_now c.args.outputs) (c.requires) (λ q. report_out c.args.book.count c.args.settings (held c.args.columns) c.args.sums.now q) c.report_into-a.result c.record_report.result _ c.report_into-a.ensures c.report_into-a.auto.scratch c.report_into-a.auto.coefficients c.report_into-a.auto.errors c.report_into-a.auto.pruned c.report_into-a.auto.lower c.report_into-a.auto.upper c.report_into-a.auto.outliers c.record_report.ensures
