-- `statistics::order::holds_nan` meets its contract. The invariant: found is the answer so far.
use Rattle.std.proofs.Common.{false, ◌||◌, is_nan, sym, refl}
use lib.Ieee.{nan}
use Rattle.loops.specs.Fold.{fold}
use Rattle.loops.specs.FoldLaws.{fold_again}
use Rattle.statistics.specs.Medians.{any_nan}
use Rattle.statistics.proofs.order.holds_nan.Goals as goal

pub loop-x-init : goal.loop-x-init
unfolding any_nan fold
loop-x-init c = refl

pub loop-x-preserved : goal.loop-x-preserved
unfolding any_nan
loop-x-preserved c =
    rw (c.loop-x.invariant, c.is_nan-found.ensures.value) (sym (fold_again (λ b x. b || is_nan x) false c.args.a.now nan _ c.loop-x-test.true))
