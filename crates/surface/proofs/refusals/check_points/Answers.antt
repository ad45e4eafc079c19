-- `surface::refusals::check_points` meets its contract.
use Rattle.surface.specs.RefusalLaws.{points_finite_lem}
use Rattle.surface.proofs.refusals.check_points.Goals as goal

pub returns : goal.returns
returns c = rw (points_finite_lem c.args.n c.args.points.xs.now c.args.points.zs.now c.args.points.ys.now) at c.check_samples.ensures
