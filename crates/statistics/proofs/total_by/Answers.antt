-- `statistics::total_by` meets its contract. The invariant: v is the sum of the losses so far.
use Rattle.std.proofs.Common.{◌≡◌, ◌+◌, ◌-◌, ◌*◌, List, map, length, refl, sym, ap, ◌∙◌, arith, take_all}
use lib.Ieee.{Float, nan, binary64, add}
use Rattle.loops.specs.Fold.{fold}
use Rattle.loops.specs.FoldLaws.{fold_map_again, fold_map_two}
use Rattle.value.specs.Numbers.{zero_f}
use Rattle.value.specs.Total.{total_f}
use Rattle.statistics.specs.Losses.{huber_loss, losses}
use Rattle.statistics.proofs.total_by.Goals as goal

pub loop-p-init : goal.loop-p-init
unfolding fold
loop-p-init c = refl

pub loop-p-preserved : goal.loop-p-preserved
loop-p-preserved c =
    rw (c.pair_losses-two.ensures, c.loop-p.invariant)
    (sym (fold_map_two (add binary64) zero_f (λ r. huber_loss r c.huber_const-constant.result c.args.mad) c.args.a.now nan c.loop-p.p (omega arith)))

pub returns-then-n-eq1 : goal.returns-then-n-eq1
unfolding losses
returns-then-n-eq1 c =
    let a = c.args.a.now in
    let loss : Float → Float = λ r. huber_loss r c.huber_const-constant.result c.args.mad in
    let e : length a - 1 ≡ 2 * c.loop-p.p = omega arith in
    rw (← c.requires, ← c.huber_const-constant.ensures, c.huber_loss-v.ensures, c.loop-p.invariant, e)
    (sym (fold_map_again (add binary64) zero_f loss a nan (2 * c.loop-p.p) (omega arith)) ∙ ap (λ (l : List Float). total_f (map loss l)) (take_all (2 * c.loop-p.p + 1) a (omega arith)))

pub returns-else-n-eq1 : goal.returns-else-n-eq1
unfolding losses
returns-else-n-eq1 c =
    let a = c.args.a.now in
    let loss : Float → Float = λ r. huber_loss r c.huber_const-constant.result c.args.mad in
    rw (← c.requires, ← c.huber_const-constant.ensures, c.loop-p.invariant) (ap (λ (l : List Float). total_f (map loss l)) (take_all (2 * c.loop-p.p) a (omega arith)))
