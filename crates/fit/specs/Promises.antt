-- What an attempt at k coefficients promises. Definitions only.
use Rattle.std.specs.Prelude.{◌≡◌, true, List, map, ℕ, take, Float}
use Rattle.loops.specs.Within.{Within}
use Rattle.value.specs.Absolute.{abs_f}
use Rattle.monomial.specs.Rows.{Row}
use Rattle.solve.specs.Solve.{solve}
use Rattle.fit.specs.declared.Attempt.{Attempt}
use Rattle.fit.specs.Residuals.{residuals}
use Rattle.fit.specs.Solved.{is_solved, pivot_tests}

-- the answer r, and scratch before (s) and after (t): only its first n places change; where it is solved, they hold the sizes of the residuals
pub record Attempted (sums : List Float) (rows : List Row) (k n : ℕ) (s t : List Float) (r : Attempt) : Type 0 where
  pub tests : r.tests ≡ pivot_tests sums k
  pub solved : r.solved ≡ is_solved sums rows k
  pub within : Within n s t
  pub sizes : is_solved sums rows k ≡ true → take n t ≡ map abs_f (residuals k (solve sums k).c rows)
