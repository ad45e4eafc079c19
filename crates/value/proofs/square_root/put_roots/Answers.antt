-- `value::square_root::put_roots` meets its contract. The loop's invariant: the places passed are roots.
use Rattle.std.proofs.Common.{◌≡◌, length, length-set, refl, ◌∙◌, arith}
use lib.Ieee.{nan}
use Rattle.loops.specs.Places.{each}
use Rattle.loops.specs.PlaceLaws.{each_again, each_whole}
use Rattle.value.specs.Root.{root_f}
use Rattle.value.proofs.square_root.put_roots.Goals as goal

pub loop-i-init : goal.loop-i-init
unfolding each
loop-i-init c = (refl, refl)

pub loop-i-preserved : goal.loop-i-preserved
loop-i-preserved c = (
  simp length-set c.loop-i.invariant.0,
  rw (c.root_by.ensures, c.loop-i.invariant.1) (each_again (λ _ x. root_f x) _ _ nan (omega arith)),
)

pub returns : goal.returns
returns c =
    let z : c.loop-i.i ≡ length c.args.v.now = omega arith in
    (rw z at c.loop-i.invariant.1) ∙ each_whole root_f c.args.v.now
