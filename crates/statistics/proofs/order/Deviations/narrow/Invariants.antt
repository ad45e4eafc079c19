-- `statistics::order::Deviations::narrow` meets its contract. The invariant: place m lies in the range, whose counts are right.
use Rattle.std.proofs.Common.{◌+◌, ◌-◌, ◌*◌}
use Rattle.std.specs.Int.{from_bool}
use Rattle.statistics.specs.Counting.{InRange}
use Rattle.statistics.proofs.order.Deviations.narrow.Given as goal

abbrev pub invariant-loop-r : goal.invariant-loop-r
invariant-loop-r l = InRange l.self l.m l.r.lo l.r.hi l.r.below l.r.upto

-- a turn that moves both ends is followed by one that cuts
abbrev pub decreases-loop-r : goal.decreases-loop-r
decreases-loop-r l = 2 * (l.r.hi - l.r.lo) + from_bool l.gap
