-- `statistics::order::makes_nan` meets its contract. The invariant: found is the answer so far.
use Rattle.std.proofs.Common.{refl}
use Rattle.loops.specs.Fold.{fold}
use Rattle.statistics.specs.Medians.{any_nan}
use Rattle.statistics.specs.Counting.{distances}
use Rattle.statistics.proofs.Deviations.{nan_turn}
use Rattle.statistics.proofs.order.makes_nan.Goals as goal

pub loop-x-init : goal.loop-x-init
unfolding any_nan fold distances
loop-x-init c = refl

pub loop-x-preserved : goal.loop-x-preserved
loop-x-preserved c = rw (c.loop-x.invariant, c.is_nan-found.ensures.value, c.abs.ensures) (nan_turn c.args.d c.args.a.now _ c.loop-x-test.true)
