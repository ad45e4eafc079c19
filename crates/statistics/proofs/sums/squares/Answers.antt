-- `statistics::sums::squares` meets its contract. The invariant: v is the sum so far.
use Rattle.std.proofs.Common.{sym, refl}
use lib.Ieee.{nan, binary64, add}
use Rattle.loops.specs.Fold.{fold}
use Rattle.loops.specs.FoldLaws.{fold_map_again}
use Rattle.value.specs.Numbers.{zero_f}
use Rattle.statistics.specs.Variances.{square}
use Rattle.statistics.proofs.sums.squares.Goals as goal

pub loop-x-init : goal.loop-x-init
unfolding fold
loop-x-init c = refl

pub loop-x-preserved : goal.loop-x-preserved
loop-x-preserved c = rw c.loop-x.invariant (sym (fold_map_again (add binary64) zero_f square c.args.a.now nan _ c.loop-x-test.true))
