-- `value::root_by_digits` meets its contract. The invariant and one turn of the loop are in `proofs/SquareRoot/Numbers.antt`.
use Rattle.std.proofs.Common.{◌-◌}
use Rattle.value.proofs.SquareRoot.Numbers.{Run}
use Rattle.value.proofs.square_root.root_by_digits.Given as goal

abbrev pub invariant-loop : goal.invariant-loop
invariant-loop l = Run l.m l.root l.rest l.next l.counter

abbrev pub decreases-loop : goal.decreases-loop
decreases-loop l = 53 - l.counter
