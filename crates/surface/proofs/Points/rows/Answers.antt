-- `surface::Points::rows` meets its contract.
use Rattle.std.proofs.Common.{ap, ◌∙◌}
use Rattle.monomial.specs.Sums.{sums_of}
use Rattle.surface.specs.PointLaws.{rows_of_points_lem, sums_of_points}
use Rattle.surface.proofs.Points.rows.Goals as goal

pub returns-clause-rows : goal.returns-clause-rows
returns-clause-rows c = c.surface.ensures.rows ∙ rows_of_points_lem c.args.n c.args.self.xs.now c.args.self.zs.now c.args.self.ys.now

pub returns-clause-sums : goal.returns-clause-sums
returns-clause-sums c = ap sums_of c.surface.ensures.weighted ∙ sums_of_points c.args.n c.args.self.xs.now c.args.self.zs.now c.args.self.ys.now
