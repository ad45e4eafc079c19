-- `capi::stakebook_group_report` meets its contract.
use Rattle.capi.specs.GroupFitting.{group_report_fits}
use Rattle.samples.specs.Columns.{columns_of}
use Rattle.capi.proofs.Promises.{report_charged_packed}
use Rattle.capi.proofs.stakebook_group_report.Goals as goal

pub packed_report-requires : goal.packed_report-requires
packed_report-requires c = rw c.group_report.ensures.does.answer (group_report_fits c.args.group c.args.table.now c.args.count _ (columns_of c.args.xs.now c.args.ys.now c.args.ws.now) c.args.sums.now _)

pub returns : goal.returns
returns c = rw (← c.listed-settings.ensures) (report_charged_packed _ c.group_report.ensures c.packed_report.ensures)
