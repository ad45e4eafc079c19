-- `statistics::order::Deviations::gather` meets its contract. The invariant: both counts are right so far, and the first c places are those kept so far, if they fit.
use Rattle.std.proofs.Common.{◌≡◌, ◌+◌, ◌*◌, ◌≤◌, length, take}
use Rattle.statistics.specs.Counting.{distances, count, onward, between, keep}
use Rattle.statistics.proofs.Pairs.{Lanes}
use Rattle.statistics.proofs.order.Deviations.gather.Given as goal

abbrev pub invariant-loop-p : goal.invariant-loop-p
invariant-loop-p l =
    let so_far = distances l.self-inside.from (take (2 * l.p) l.self-inside.sizes.now) in
    Lanes l.onward l.p (count (onward l.lo) so_far) × (l.c ≤ 2 * l.p) × (l.c ≡ count (between l.lo l.hi) so_far) × (length l.out ≡ l.last + 1)
    × (l.c ≤ l.last → take l.c l.out ≡ keep (between l.lo l.hi) so_far)
