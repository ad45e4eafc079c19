-- `covariance::band_by` meets its contract.
use Rattle.covariance.specs.BandsFrom.{band_by}
use Rattle.covariance.proofs.band_by.Goals as goal

pub returns : goal.returns
unfolding band_by
returns c = rw c.width-w.ensures
