-- `solve::ridge` meets its contract. The loop's invariant: the definition from here on is the definition at the start.
use Rattle.std.proofs.Common.{◌≡◌}
use Rattle.loops.specs.Loop.{from}
use Rattle.solve.specs.Solve.{ridge_cell}
use Rattle.solve.proofs.ridge.Given as goal

abbrev pub invariant-loop-i : goal.invariant-loop-i
invariant-loop-i l = from ridge_cell l.i l.fn.k.0 l.m ≡ from ridge_cell l.initial.i l.fn.k.0 l.initial.m
