-- When a coefficient count is solved, its score and its pivot tests. Definitions only.
use Rattle.std.specs.Prelude.{Bool, cond, ◌&&◌, List, ℕ, ◌+◌, min, eqb, length, Float, Option, Some, None}
use Rattle.loops.specs.Fold.{all_of}
use Rattle.value.specs.Finite.{finite}
use Rattle.value.specs.Total.{total_f}
use Rattle.statistics.specs.Losses.{losses}
use Rattle.monomial.specs.Rows.{Row}
use Rattle.solve.specs.Solve.{solve}
use Rattle.score.specs.Score.{score_of}
use Rattle.score.specs.declared.Criterion.{Criterion}
use Rattle.fit.specs.Residuals.{residuals}

-- Document 01's "solved": a degree, of k coefficients, is solved exactly when no pivot fails and every y − fitted value is finite.
unfoldable pub is_solved : List Float → List Row → ℕ → Bool
is_solved sums rows k = eqb (solve sums k).held k && all_of finite (residuals k (solve sums k).c rows)

-- its score on the rows `own`, from the total of their losses
unfoldable pub score_on : Criterion → List Float → List Row → ℕ → Float
score_on criterion sums own k = score_of criterion (length own) k (total_f (losses (residuals k (solve sums k).c own)))

-- What is known of k coefficients solved from the sums: if they are solved by the rows, their score on their own.
unfoldable pub scored_by : Criterion → List Float → List Row → List Row → ℕ → Option Float
scored_by criterion sums rows own k = cond (is_solved sums rows k) (Some (score_on criterion sums own k)) None

-- one for each pivot compared, a failing one included
unfoldable pub pivot_tests : List Float → ℕ → ℕ
pivot_tests sums k = min k ((solve sums k).held + 1)
