-- `covariance::band_at` meets its contract.
use Rattle.covariance.specs.Bands.{band_at}
use Rattle.covariance.proofs.band_at.Goals as goal

pub returns : goal.returns
unfolding band_at
returns c = rw (c.confidence_band.ensures, c.prediction_variance-variance.ensures, c.fitted-value.ensures, c.terms_at-terms.ensures)
