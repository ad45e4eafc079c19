-- `losses::put_losses` meets its contract. The invariant: v is the sum of the losses so far, and they are written.
use Rattle.std.proofs.Common.{◌≡◌, length, refl, sym, ◌∙◌, arith, le_refl, take_all}
use lib.Ieee.{Float, nan, binary64, add}
use Rattle.loops.specs.Fold.{fold}
use Rattle.loops.specs.FoldLaws.{fold_map_again}
use Rattle.loops.specs.Places.{each}
use Rattle.loops.specs.PlaceLaws.{each_again}
use Rattle.value.specs.Numbers.{zero_f}
use Rattle.statistics.specs.Losses.{huber_loss, losses}
use Rattle.losses.proofs.Telling.{losses_written}
use Rattle.losses.proofs.put_losses.Goals as goal

pub loop-i-init : goal.loop-i-init
unfolding fold each
loop-i-init c = (refl, refl)

pub loop-i-preserved : goal.loop-i-preserved
loop-i-preserved c =
    let step = λ (r : Float). huber_loss r c.huber_const-constant.result c.median_absolute_deviation-mad.result in (
      rw (c.huber_loss-loss.ensures, c.loop-i.invariant.0) (sym (fold_map_again (add binary64) zero_f step c.args.a.now nan c.loop-i.i c.loop-i-test.true)),
      rw (c.huber_loss-loss.ensures, c.loop-i.invariant.1) (each_again _ _ _ nan (omega arith)),
    )

pub returns : goal.returns
unfolding losses
returns c =
    let z : c.loop-i.i ≡ length c.args.a.now = omega arith in
    let t = rw (z, take_all (length c.args.a.now) c.args.a.now (le_refl _)) at c.loop-i.invariant.0 in
    let w = (rw z at c.loop-i.invariant.1) ∙ losses_written c.huber_const-constant.result c.median_absolute_deviation-mad.result c.args.a.now c.args.out.now (omega arith) in
    rw (← c.median_absolute_deviation-mad.ensures, ← c.huber_const-constant.ensures) (record { total = t; written = w })
