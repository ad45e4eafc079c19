-- `covariance::put_roots` meets its contract.
use Rattle.value.specs.Root.{root_f}
use Rattle.covariance.specs.Bands.{widened}
use Rattle.covariance.proofs.Rows.{each_then}
use Rattle.covariance.proofs.put_roots.Goals as goal

pub returns : goal.returns
returns c = rw (c.put_roots.ensures, c.widen.ensures) (each_then root_f (widened c.args.spread.tolerance c.args.spread.sd) c.args.n c.args.variances.now c.requires)
