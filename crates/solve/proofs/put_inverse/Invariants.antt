-- `solve::put_inverse` meets its contract. The loop's invariant: the definition from here on is the definition at the start.
use Rattle.std.proofs.Common.{◌≡◌}
use Rattle.loops.specs.Loop.{while}
use Rattle.solve.specs.Solve.{matrix_of, ridge, column_holds, inverse_column}
use Rattle.solve.proofs.put_inverse.Given as goal

abbrev pub invariant-loop-j : goal.invariant-loop-j
invariant-loop-j l =
    let m = ridge l.n (matrix_of l.sums) in
    while (column_holds l.n m) (inverse_column l.n m) l.j l.n l.v ≡ while (column_holds l.n m) (inverse_column l.n m) 0 l.n l.initial.v
