-- `statistics::stddev_and_mean` meets its contract. The contracts of the callees are put into the definition.
use Rattle.statistics.specs.Variances.{mean, stddev_and_mean}
use Rattle.statistics.proofs.stddev_and_mean.Goals as goal

pub returns : goal.returns
unfolding stddev_and_mean mean
returns c = rw (c.sqrt.ensures, c.squares_about.ensures, c.total.ensures, c.nearest_usize_to_f64-n.ensures)
