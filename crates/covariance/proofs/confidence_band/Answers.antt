-- `covariance::confidence_band` meets its contract.
use Rattle.covariance.specs.Bands.{band_of}
use Rattle.covariance.specs.BandsFrom.{band_by}
use Rattle.covariance.proofs.confidence_band.Goals as goal

pub returns : goal.returns
unfolding band_of band_by
returns c = rw (c.band_by.ensures, c.sqrt.ensures, c.widened-v.ensures)
