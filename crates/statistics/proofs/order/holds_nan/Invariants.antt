-- `statistics::order::holds_nan` meets its contract. The invariant: found is the answer so far.
use Rattle.std.proofs.Common.{◌≡◌, take}
use Rattle.statistics.specs.Medians.{any_nan}
use Rattle.statistics.proofs.order.holds_nan.Given as goal

abbrev pub invariant-loop-x : goal.invariant-loop-x
invariant-loop-x l = l.found ≡ any_nan (take l.x-index l.a)
