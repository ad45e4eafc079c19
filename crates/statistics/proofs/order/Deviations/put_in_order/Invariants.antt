-- `statistics::order::Deviations::put_in_order` meets its contract. The invariant: the first places hold the bits of so many numbers.
use Rattle.std.proofs.Common.{◌≡◌, length, take, map}
use lib.Ieee.{binary64, to_bits}
use Rattle.statistics.specs.Counting.{distances}
use Rattle.statistics.proofs.order.Deviations.put_in_order.Given as goal

abbrev pub invariant-loop-i : goal.invariant-loop-i
invariant-loop-i l =
    (length l.keys ≡ length l.self-inside.sizes.now) × (take l.i l.keys ≡ map (to_bits binary64) (distances l.self-inside.from (take l.i l.self-inside.sizes.now)))
