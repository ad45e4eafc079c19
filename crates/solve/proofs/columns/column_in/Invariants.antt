-- `solve::columns::column_in` meets its contract. The loop's invariant: the places passed are copied.
use Rattle.std.proofs.Common.{◌≡◌}
use Rattle.loops.specs.Places.{each}
use Rattle.solve.specs.Solve.{cell}
use Rattle.solve.proofs.columns.column_in.Given as goal

abbrev pub invariant-loop-r : goal.invariant-loop-r
invariant-loop-r l = l.b ≡ each (λ i _. cell l.v i l.j) l.r l.initial.b
