-- `solve::diagonal` meets its contract. The loop's invariant: the places passed are copied.
use Rattle.std.proofs.Common.{◌≡◌, refl, arith, rules}
use lib.Ieee.{nan}
use Rattle.loops.specs.Places.{each}
use Rattle.loops.specs.PlaceLaws.{each_again}
use Rattle.solve.proofs.diagonal.Goals as goal

pub loop-i-init : goal.loop-i-init
unfolding each
loop-i-init c = refl

pub loop-i-preserved : goal.loop-i-preserved
loop-i-preserved c = rw c.loop-i.invariant (each_again _ _ _ nan (search rules))

pub returns : goal.returns
returns c =
    let z : c.loop-i.i ≡ c.args.k.0 = omega arith in
    rw z at c.loop-i.invariant
