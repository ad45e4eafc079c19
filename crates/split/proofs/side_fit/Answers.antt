-- `split::side_fit` meets its contract.
use mathlib.Core.Path.{◌∙◌}
use native.Mathlib.Omega.{arith}
use Rattle.basis.specs.CountLaws.{curve_count}
use Rattle.split.proofs.Corners.{fit_is}
use Rattle.split.proofs.side_fit.Goals as goal

pub side_sums-sums-requires : goal.side_sums-sums-requires
side_sums-sums-requires c = omega (arith, c.k-k.ensures ∙ curve_count c.args.degree.0, c.requires)

pub solve-s-requires : goal.solve-s-requires
solve-s-requires c = (omega (arith, c.side_sums-sums.ensures.long), omega (arith, c.k-k.ensures ∙ curve_count c.args.degree.0, c.requires))

pub returns : goal.returns
returns c = fit_is _ c.args.degree c.k-k.result.0 c.side_sums-sums.result c.solve-s.result c.requires c.k-k.ensures c.side_sums-sums.ensures.long c.side_sums-sums.ensures.same c.solve-s.ensures
