-- `capi::stakebook_report` meets its contract.
use Rattle.capi.specs.Fitting.{report_fits}
use Rattle.samples.specs.Columns.{columns_of}
use Rattle.capi.proofs.Promises.{report_packed}
use Rattle.capi.proofs.stakebook_report.Goals as goal

pub packed_report-requires : goal.packed_report-requires
packed_report-requires c = rw c.report.ensures.answer (report_fits c.args.count _ (columns_of c.args.xs.now c.args.ys.now c.args.ws.now) c.args.sums.now _)

pub returns : goal.returns
returns c = rw (← c.numbered-settings.ensures) (report_packed c.report.ensures c.packed_report.ensures)
