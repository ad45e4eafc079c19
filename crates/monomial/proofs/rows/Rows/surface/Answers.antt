-- `monomial::rows::Rows::surface` meets its contract.
use Rattle.std.specs.Prelude.{[]}
use Rattle.std.proofs.Common.{rules, length-take-le}
use Rattle.basis.specs.declared.Basis.TheVariants.{Surface}
use Rattle.monomial.specs.ReadingLaws.{rows_first, weighted_first}
use Rattle.monomial.proofs.rows.Rows.surface.Goals as goal

pub returns-clause-rows : goal.returns-clause-rows
returns-clause-rows c = rw (length-take-le c.args.n c.args.ys.now (search rules)) (rows_first Surface c.args.n c.args.xs.now c.args.zs.now c.args.ys.now [])

pub returns-clause-weighted : goal.returns-clause-weighted
returns-clause-weighted c = rw (length-take-le c.args.n c.args.ys.now (search rules)) (weighted_first Surface c.args.n c.args.xs.now c.args.zs.now c.args.ys.now [])
