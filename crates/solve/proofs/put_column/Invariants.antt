-- `solve::put_column` meets its contract. The loop's invariant: the definition from here on is the definition at the start.
use Rattle.std.proofs.Common.{◌≡◌}
use Rattle.loops.specs.Loop.{from}
use Rattle.solve.specs.Solve.{put_cell}
use Rattle.solve.proofs.put_column.Given as goal

abbrev pub invariant-loop-i : goal.invariant-loop-i
invariant-loop-i l = from (put_cell l.j l.b) l.i l.fn.k.0 l.v ≡ from (put_cell l.j l.b) l.initial.i l.fn.k.0 l.initial.v
