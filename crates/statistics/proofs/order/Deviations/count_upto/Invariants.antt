-- `statistics::order::Deviations::count_upto` meets its contract. The invariant: both counts together are the count so far.
use Rattle.std.proofs.Common.{◌*◌, take}
use Rattle.statistics.specs.Counting.{distances, count, upto}
use Rattle.statistics.proofs.Pairs.{Lanes}
use Rattle.statistics.proofs.order.Deviations.count_upto.Given as goal

abbrev pub invariant-loop-p : goal.invariant-loop-p
invariant-loop-p l = Lanes l.lanes l.p (count (upto l.b) (distances l.self-inside.from (take (2 * l.p) l.self-inside.sizes.now)))
