-- `fit::residual` meets its contract.
use Rattle.monomial.specs.Rows.{row_at}
use Rattle.fit.specs.Residuals.{residual}
use Rattle.fit.proofs.residual.Goals as goal

pub returns : goal.returns
unfolding residual row_at
returns c = rw c.fitted_at.ensures
