-- `monomial::add_right` meets its contract. The loop's invariant: the places of g that were passed have their products.
use mathlib.Core.Path.{◌≡◌, refl, sym}
use native.Mathlib.Omega.{arith}
use borrow.Author.Rules.{rules}
use lib.ListN.{length-set}
use lib.Ieee.{nan}
use Rattle.loops.specs.Places.{each}
use Rattle.loops.specs.PlaceLaws.{each_again}
use Rattle.monomial.specs.SumLaws.{weighted_right}
use Rattle.monomial.proofs.add_right.Goals as goal

pub loop-i-init : goal.loop-i-init
unfolding each
loop-i-init c = (search rules, refl, refl)

pub loop-i-preserved : goal.loop-i-preserved
loop-i-preserved c = (search rules, simp length-set c.loop-i.invariant.1, rw (c.loop-i.invariant.2, sym (weighted_right c.args.terms.now c.args.y c.args.w c.loop-i.i)) (each_again _ _ _ nan (search rules)))

pub returns : goal.returns
returns c =
    let z : c.loop-i.i ≡ 16 = omega arith in
    rw z at c.loop-i.invariant.2
