-- `folds::reach::greatest` meets its contract. The invariant: what was found bounds the numbers that were passed.
use Rattle.std.proofs.Common.{refl, take_all}
use lib.Ieee.{of_bits}
use Rattle.value.specs.Absolute.{abs_f}
use Rattle.folds.proofs.Reaching.{none_yet, as_great, greater, without_end}
use Rattle.folds.proofs.reach.greatest.Goals as goal
use Rattle.folds.proofs.reach.greatest.Goals.{then-size-most, else-size-most+then-most-size, else-size-most+else-most-size}

pub loop-v-init : goal.loop-v-init
unfolding of_bits abs_f
loop-v-init c = none_yet c.args.a.now _ refl

pub loop-v-preserved : goal.loop-v-preserved
unfolding of_bits
loop-v-preserved c =
    elim c.if-size-most.branch [
      | then-size-most w ↦ rw w.most-is (as_great _ _ _ _ c.loop-v.invariant c.loop-v-test.true c.abs-size.ensures w.if-size-most.true)
      | else-size-most+then-most-size w ↦ rw w.most-is (greater _ _ _ _ c.loop-v.invariant c.loop-v-test.true c.abs-size.ensures w.if-most-size.true)
      | else-size-most+else-most-size w ↦ rw w.most-is (without_end _ _ _ _ c.loop-v.invariant c.loop-v-test.true c.abs-size.ensures)
    ]

pub returns : goal.returns
returns c = rw (← (take_all c.loop-v.v-index c.args.a.now c.loop-v-test.false)) c.loop-v.invariant.bounds
