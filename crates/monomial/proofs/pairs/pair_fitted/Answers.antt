-- `monomial::pairs::pair_fitted` meets its contract. The loop's invariant: v holds the fitted values of the coefficients passed.
use Rattle.std.proofs.Common.{◌≡◌, refl, arith}
use Rattle.loops.specs.Fold.{fold}
use Rattle.loops.specs.Places.{table}
use Rattle.value.specs.TotalLaws.{total_again}
use Rattle.value.specs.LaneLaws.{pair_at}
use Rattle.monomial.specs.Rows.{fitted}
use Rattle.monomial.proofs.pairs.pair_fitted.Goals as goal

pub loop-j-init : goal.loop-j-init
unfolding fitted fold table
loop-j-init c = refl

pub loop-j-preserved : goal.loop-j-preserved
unfolding fitted
loop-j-preserved c = rw (c.loop-j.invariant, pair_at c.args.c.now c.requires.1 c.loop-j.j (omega arith), pair_at c.args.terms.now c.requires.2 c.loop-j.j (omega arith), total_again _ c.loop-j.j, total_again _ c.loop-j.j)

pub returns : goal.returns
returns c =
    let z : c.loop-j.j ≡ c.args.k.0 = omega arith in
    rw z at c.loop-j.invariant
