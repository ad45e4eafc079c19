-- `statistics::sums::total` meets its contract. The invariant: v is the sum so far.
use Rattle.std.proofs.Common.{◌≡◌, take}
use Rattle.value.specs.Total.{total_f}
use Rattle.statistics.proofs.sums.total.Given as goal

abbrev pub invariant-loop-x : goal.invariant-loop-x
invariant-loop-x l = l.v ≡ total_f (take l.x-index l.a)
