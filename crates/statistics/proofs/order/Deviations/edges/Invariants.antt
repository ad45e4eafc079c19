-- `statistics::order::Deviations::edges` meets its contract. The invariant: low is the greatest under b and high the least from lo on, so far.
use Rattle.std.proofs.Common.{◌≡◌, take}
use Rattle.statistics.specs.Counting.{distances, least_from, greatest_under}
use Rattle.statistics.proofs.order.Deviations.edges.Given as goal

abbrev pub invariant-loop-x : goal.invariant-loop-x
invariant-loop-x l =
    let so_far = distances l.self-inside.from (take l.x-index l.self-inside.sizes.now) in
    (l.low ≡ greatest_under l.b so_far) × (l.high ≡ least_from l.lo so_far)
