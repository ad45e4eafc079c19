-- `monomial::rows::Rows::curve` meets its contract.
use Rattle.std.proofs.Common.{rules, length-take-le, ◌∙◌}
use Rattle.basis.specs.declared.Basis.TheVariants.{Curve}
use Rattle.monomial.specs.RowLaws.{curve_rows}
use Rattle.monomial.specs.ReadingLaws.{rows_first, weighted_first}
use Rattle.monomial.proofs.rows.Rows.curve.Goals as goal

pub returns-clause-rows : goal.returns-clause-rows
returns-clause-rows c = rw (length-take-le c.args.n c.args.columns.ys.now (search rules)) (rows_first Curve c.args.n c.args.columns.xs.now c.args.columns.xs.now c.args.columns.ys.now c.args.columns.ws.now ∙ curve_rows c.args.n c.args.columns.xs.now c.args.columns.xs.now c.args.columns.ys.now c.args.columns.ws.now)

pub returns-clause-weighted : goal.returns-clause-weighted
returns-clause-weighted c = rw (length-take-le c.args.n c.args.columns.ys.now (search rules)) (weighted_first Curve c.args.n c.args.columns.xs.now c.args.columns.xs.now c.args.columns.ys.now c.args.columns.ws.now)
