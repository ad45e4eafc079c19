-- `statistics::whole::root_to` meets its contract. The invariant: the power of r is at most n.
use Rattle.std.proofs.Common.{◌^◌, ◌≤◌}
use Rattle.statistics.proofs.whole.root_to.Given as goal

abbrev pub invariant-loop-r : goal.invariant-loop-r
invariant-loop-r l = l.r ^ l.p ≤ l.n
