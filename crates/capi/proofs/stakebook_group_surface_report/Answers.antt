-- `capi::stakebook_group_surface_report` meets its contract.
use Rattle.capi.specs.GroupFitting.{group_surface_fits}
use Rattle.surface.specs.Points.{point_columns}
use Rattle.capi.proofs.Promises.{report_charged_packed}
use Rattle.capi.proofs.stakebook_group_surface_report.Goals as goal

pub packed_report-requires : goal.packed_report-requires
packed_report-requires c = rw c.group_surface_report.ensures.does.answer (group_surface_fits c.args.group c.args.table.now c.args.count _ (point_columns c.args.xs.now c.args.zs.now c.args.ys.now) _)

pub returns : goal.returns
returns c = rw (← c.listed-settings.ensures) (report_charged_packed _ c.group_surface_report.ensures c.packed_report.ensures)
