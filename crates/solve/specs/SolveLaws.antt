-- Laws of Solve.antt.
use Rattle.std.specs.Prelude.{List, ℕ, ◌≤◌, replicate, Float}
use Rattle.std.proofs.Common.{arith}
use Rattle.loops.specs.LoopLaws.{while_at_most}
use Rattle.value.specs.Numbers.{zero_f}
use Rattle.solve.specs.Solve.{System, pivot_holds, clear_below, eliminate, matrix_of, right_of, solved, solve, ridge, column_holds, inverse_column, inverse_columns, inverse}

-- no more pivots hold than there are
pub held_at_most : (start : List Float) (k : ℕ) (s : System) → (eliminate start k s).at ≤ k
unfolding eliminate
held_at_most start k s = while_at_most (pivot_holds start) (clear_below k) 0 k s (omega arith)

pub solve_at_most : (sums : List Float) (k : ℕ) → (solve sums k).held ≤ k
unfolding solve solved
solve_at_most sums k = held_at_most (matrix_of sums) k (record { m = matrix_of sums; b = right_of sums k })

pub inverse_at_most : (sums : List Float) (k : ℕ) → (inverse sums k).columns ≤ k
unfolding inverse inverse_columns
inverse_at_most sums k = let m = ridge k (matrix_of sums) in while_at_most (column_holds k m) (inverse_column k m) 0 k (replicate 256 zero_f) (omega arith)
