-- `statistics::order::Deviations::counts_upto` meets its contract. The invariant: both counts of each together are the count so far.
use Rattle.std.proofs.Common.{◌*◌, take}
use Rattle.statistics.specs.Counting.{distances, count, upto}
use Rattle.statistics.proofs.Pairs.{Lanes}
use Rattle.statistics.proofs.order.Deviations.counts_upto.Given as goal

abbrev pub invariant-loop-p : goal.invariant-loop-p
invariant-loop-p l =
    let so_far = distances l.self-inside.from (take (2 * l.p) l.self-inside.sizes.now) in
    Lanes l.lows l.p (count (upto l.cuts.low) so_far) × Lanes l.highs l.p (count (upto l.cuts.high) so_far)
