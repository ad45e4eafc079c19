-- `covariance::pairs::pair_prediction_variance` meets its contract. The loop's invariant: v holds the sums over the columns passed.
use Rattle.std.proofs.Common.{◌≡◌, ℕ, refl, arith}
use lib.ListN.{get_or}
use lib.Ieee.{Float, nan, binary64, mul}
use Rattle.loops.specs.Fold.{fold}
use Rattle.loops.specs.Places.{table}
use Rattle.value.specs.Lanes.{lane}
use Rattle.value.specs.TotalLaws.{total_again}
use Rattle.value.specs.LaneLaws.{pair_at}
use Rattle.covariance.specs.Covariance.{column_of, prediction_variance}
use Rattle.covariance.proofs.pairs.pair_prediction_variance.Goals as goal

pub loop-j-init : goal.loop-j-init
unfolding fold table
loop-j-init c = refl

pub loop-j-preserved : goal.loop-j-preserved
loop-j-preserved c =
    let term : ℕ → ℕ → Float = λ s i. mul binary64 (column_of c.args.k.0 (lane s c.args.terms.now) c.args.covariance.now i) (get_or (lane s c.args.terms.now) i nan) in
    rw (c.loop-j.invariant, c.pair_column.ensures, pair_at c.args.terms.now c.requires.1 c.loop-j.j (omega arith), total_again (term 0) c.loop-j.j, total_again (term 1) c.loop-j.j)

pub returns : goal.returns
unfolding prediction_variance
returns c =
    let z : c.loop-j.j ≡ c.args.k.0 = omega arith in
    rw z at c.loop-j.invariant
