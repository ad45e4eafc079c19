-- `capi::stakebook_surface_report` meets its contract.
use Rattle.capi.specs.SurfaceFitting.{surface_report_fits}
use Rattle.surface.specs.Points.{point_columns}
use Rattle.capi.proofs.Promises.{report_packed}
use Rattle.capi.proofs.stakebook_surface_report.Goals as goal

pub packed_report-requires : goal.packed_report-requires
packed_report-requires c = rw c.surface_report.ensures.answer (surface_report_fits c.args.count (point_columns c.args.xs.now c.args.zs.now c.args.ys.now) _ _)

pub returns : goal.returns
returns c = rw (← c.listed-settings.ensures) (report_packed c.surface_report.ensures c.packed_report.ensures)
