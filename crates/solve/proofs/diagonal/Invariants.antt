-- `solve::diagonal` meets its contract. The loop's invariant: the places passed are copied.
use Rattle.std.proofs.Common.{◌≡◌}
use Rattle.loops.specs.Places.{each}
use Rattle.solve.specs.Solve.{cell}
use Rattle.solve.proofs.diagonal.Given as goal

abbrev pub invariant-loop-i : goal.invariant-loop-i
invariant-loop-i l = l.d ≡ each (λ j _. cell l.m j j) l.i l.initial.d
