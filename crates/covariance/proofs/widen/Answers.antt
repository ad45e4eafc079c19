-- `covariance::widen` meets its contract. The loop's invariant: the places passed are widened.
use Rattle.std.proofs.Common.{length-set, refl, sym, arith}
use lib.Ieee.{nan}
use Rattle.loops.specs.Places.{each}
use Rattle.loops.specs.PlaceLaws.{each_again}
use Rattle.covariance.specs.Bands.{widened}
use Rattle.covariance.proofs.Rows.{each_still}
use Rattle.covariance.proofs.widen.Goals as goal

pub returns-in-None : goal.returns-in-None
returns-in-None c = rw c.in-None.is (sym (each_still c.args.n c.args.variances.now))

pub returns-in-Absolute : goal.returns-in-Absolute
returns-in-Absolute c = rw c.in-Absolute.is (sym (each_still c.args.n c.args.variances.now))

pub returns-in-Measurement : goal.returns-in-Measurement
returns-in-Measurement c = rw c.in-Measurement.is (sym (each_still c.args.n c.args.variances.now))

pub loop-i-init : goal.loop-i-init
unfolding each
loop-i-init c = (refl, refl)

pub loop-i-preserved : goal.loop-i-preserved
loop-i-preserved c = (
  simp length-set c.loop-i.invariant.0,
  rw (c.widened.ensures, c.loop-i.invariant.1) (each_again (λ _ v. widened c.args.spread.tolerance c.args.spread.sd v) _ _ nan (omega arith)),
)
