-- `covariance::prediction_variance` meets its contract. The loop's invariant: v is the sum over the columns passed.
use mathlib.Core.Path.{◌≡◌, refl, sym}
use native.Mathlib.Omega.{arith}
use borrow.Author.Rules.{rules}
use lib.ListN.{get_or}
use lib.Ieee.{nan, binary64, mul}
use Rattle.loops.specs.Fold.{fold}
use Rattle.loops.specs.Places.{table}
use Rattle.value.specs.TotalLaws.{total_again}
use Rattle.covariance.specs.Covariance.{column_of, prediction_variance}
use Rattle.covariance.proofs.prediction_variance.Goals as goal

pub loop-j-init : goal.loop-j-init
unfolding fold table
loop-j-init c = (search rules, refl)

pub loop-j-preserved : goal.loop-j-preserved
loop-j-preserved c = (search rules, rw (c.column.ensures, c.loop-j.invariant.1) (sym (total_again (λ i. mul binary64 (column_of c.args.k.0 c.args.terms.now c.args.covariance.now i) (get_or c.args.terms.now i nan)) c.loop-j.j)))

pub returns : goal.returns
unfolding prediction_variance
returns c =
    let z : c.loop-j.j ≡ c.args.k.0 = omega arith in
    rw z at c.loop-j.invariant.1
