-- `covariance::pairs::pair_column` meets its contract. The loop's invariant: v holds the sums over the places passed.
use Rattle.std.proofs.Common.{◌≡◌, refl, arith}
use Rattle.loops.specs.Fold.{fold}
use Rattle.loops.specs.Places.{table}
use Rattle.value.specs.TotalLaws.{total_again}
use Rattle.value.specs.LaneLaws.{pair_at}
use Rattle.covariance.specs.Covariance.{column_of}
use Rattle.covariance.proofs.pairs.pair_column.Goals as goal

pub loop-i-init : goal.loop-i-init
unfolding column_of fold table
loop-i-init c = refl

pub loop-i-preserved : goal.loop-i-preserved
unfolding column_of
loop-i-preserved c = rw (c.loop-i.invariant, pair_at c.args.terms.now c.requires.2 c.loop-i.i (omega arith), total_again _ c.loop-i.i, total_again _ c.loop-i.i)

pub returns : goal.returns
returns c =
    let z : c.loop-i.i ≡ c.args.k.0 = omega arith in
    rw z at c.loop-i.invariant
