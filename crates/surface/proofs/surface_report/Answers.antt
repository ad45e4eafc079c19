-- `surface::surface_report` meets its contract.
use Rattle.surface.specs.Points.{held_points}
use Rattle.surface.proofs.Surfacing.{unlimited}
use Rattle.surface.proofs.surface_report.Goals as goal

pub returns : goal.returns
returns c = unlimited c.args.count c.args.settings (held_points c.args.points) c.surface_report_within.result _ c.surface_report_within.ensures
