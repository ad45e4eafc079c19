-- `covariance::column` meets its contract. The loop's invariant: v is the sum over the places passed.
use mathlib.Core.Path.{◌≡◌, refl, sym}
use native.Mathlib.Omega.{arith}
use borrow.Author.Rules.{rules}
use Rattle.loops.specs.Fold.{fold}
use Rattle.loops.specs.Places.{table}
use Rattle.value.specs.TotalLaws.{total_again}
use Rattle.covariance.specs.Covariance.{column_of}
use Rattle.covariance.proofs.column.Goals as goal

pub loop-i-init : goal.loop-i-init
unfolding column_of fold table
loop-i-init c = (search rules, refl)

pub loop-i-preserved : goal.loop-i-preserved
unfolding column_of
loop-i-preserved c = (search rules, rw c.loop-i.invariant.1 (sym (total_again _ c.loop-i.i)))

pub returns : goal.returns
returns c =
    let z : c.loop-i.i ≡ c.args.k.0 = omega arith in
    rw z at c.loop-i.invariant.1
