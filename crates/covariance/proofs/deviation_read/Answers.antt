-- `covariance::deviation_read` meets its contract.
use Rattle.std.proofs.Common.{ap}
use Rattle.statistics.specs.declared.StddevAndMean.{StddevAndMean}
use Rattle.covariance.proofs.deviation_read.Goals as goal

pub returns-in-Variance : goal.returns-in-Variance
returns-in-Variance c = rw c.in-Variance.is (ap (λ (s : StddevAndMean). s.stddev) c.stddev_and_mean.ensures)
