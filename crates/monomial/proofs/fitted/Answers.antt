-- `monomial::fitted` meets its contract. The loop's invariant: v is the fitted value of the coefficients passed.
use mathlib.Core.Path.{◌≡◌, refl, sym}
use native.Mathlib.Omega.{arith}
use borrow.Author.Rules.{rules}
use Rattle.loops.specs.Fold.{fold}
use Rattle.loops.specs.Places.{table}
use Rattle.value.specs.TotalLaws.{total_again}
use Rattle.monomial.specs.Rows.{fitted}
use Rattle.monomial.proofs.fitted.Goals as goal

pub loop-j-init : goal.loop-j-init
unfolding fitted fold table
loop-j-init c = (search rules, refl)

pub loop-j-preserved : goal.loop-j-preserved
unfolding fitted
loop-j-preserved c = (search rules, rw c.loop-j.invariant.1 (sym (total_again _ c.loop-j.j)))

pub returns : goal.returns
returns c =
    let z : c.loop-j.j ≡ c.args.k.0 = omega arith in
    rw z at c.loop-j.invariant.1
