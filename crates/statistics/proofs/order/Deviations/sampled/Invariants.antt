-- `statistics::order::Deviations::sampled` is in bounds.
use Rattle.std.proofs.Common.{◌≡◌, length}
use Rattle.statistics.proofs.order.Deviations.sampled.Given as goal

abbrev pub invariant-loop-i : goal.invariant-loop-i
invariant-loop-i l = length l.keys ≡ 31
