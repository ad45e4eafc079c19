-- Document 01's covariance, errors and prediction variance, over a row of term values. Definitions only.
use Rattle.std.specs.Prelude.{List, ℕ, get_or, replicate, Float}
use Rattle.std.specs.Float.{nan, binary64}
use Rattle.std.specs.Float.Ieee.{mul}
use Rattle.basis.specs.Sizes.{matrix_places, max_terms}
use Rattle.loops.specs.Places.{each, table}
use Rattle.value.specs.Numbers.{zero_f}
use Rattle.value.specs.Root.{root_f}
use Rattle.value.specs.Total.{total_f}
use Rattle.solve.specs.Solve.{cell}

-- Covariance is the inverse × residual variance, place by place;
unfoldable pub covariance_of : List Float → Float → List Float
covariance_of inverse variance = table (λ t. mul binary64 (get_or inverse t nan) variance) matrix_places

-- an error is the root of a diagonal place. 16 places, +0 from k on.
unfoldable pub errors_of : ℕ → List Float → List Float
errors_of k covariance = each (λ i _. root_f (cell covariance i i)) k (replicate max_terms zero_f)

-- Σᵢ φᵢ × cov[i][j]
unfoldable pub column_of : ℕ → List Float → List Float → ℕ → Float
column_of k terms covariance j = total_f (table (λ i. mul binary64 (get_or terms i nan) (cell covariance i j)) k)

-- Prediction variance: first each Σᵢ φᵢ × cov[i][j], then Σⱼ of that × φⱼ.
unfoldable pub prediction_variance : ℕ → List Float → List Float → Float
prediction_variance k terms covariance = total_f (table (λ j. mul binary64 (column_of k terms covariance j) (get_or terms j nan)) k)
