-- `fit::pair_residuals` meets its contract.
use Rattle.monomial.specs.Rows.{row_at}
use Rattle.fit.specs.Residuals.{residual}
use Rattle.fit.proofs.pair_residuals.Goals as goal

pub returns : goal.returns
unfolding residual row_at
returns c = rw (c.pair_fitted-v.ensures, c.pair_terms.ensures.first, c.pair_terms.ensures.second)
