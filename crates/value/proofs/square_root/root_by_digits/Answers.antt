-- `value::root_by_digits` meets its contract. The invariant and one turn of the loop are in `proofs/SquareRoot/Numbers.antt`.
use Rattle.std.proofs.Common.{◌<◌, arith}
use Rattle.value.proofs.SquareRoot.Numbers.{room_53, turn_one, turn_zero, ends_up, ends_down}
use Rattle.value.proofs.square_root.root_by_digits.Goals as goal
use Rattle.value.proofs.square_root.root_by_digits.Goals.{then-want-have, else-want-have}

pub overflow_mul-have : goal.overflow_mul-have
overflow_mul-have c = omega (arith, room_53 c.loop.invariant)

pub overflow_add-have : goal.overflow_add-have
overflow_add-have c = omega (arith, room_53 c.loop.invariant)

pub overflow_mul-want : goal.overflow_mul-want
overflow_mul-want c = omega (arith, room_53 c.loop.invariant)

pub overflow_add-want : goal.overflow_add-want
overflow_add-want c = omega (arith, room_53 c.loop.invariant)

pub loop-preserved : goal.loop-preserved
loop-preserved c =
    let go : c.loop.counter < 53 = omega arith in
    elim c.if-want-have.branch [
      | then-want-have w ↦ rw (w.root-is, w.rest-is) (turn_one c.loop.invariant go w.if-want-have.true)
      | else-want-have w ↦ rw (w.root-is, w.rest-is) (turn_zero c.loop.invariant go w.if-want-have.false)
    ]

pub returns-then-root-rest : goal.returns-then-root-rest
returns-then-root-rest c = ends_up c.requires c.loop.invariant c.loop-test.false c.if-root-rest.true

pub returns-else-root-rest : goal.returns-else-root-rest
returns-else-root-rest c = ends_down c.requires c.loop.invariant c.loop-test.false c.if-root-rest.false
