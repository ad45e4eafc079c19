-- polyfit's `residual_variance`, `mean` and `stddev_and_mean`. A square is v × v; sums run in index order from +0. Definitions only.
use Rattle.std.specs.Prelude.{ℕ, cond, List, map, length, Float}
use Rattle.std.specs.Float.{binary64}
use Rattle.std.specs.Float.Ieee.{sub, mul, div, eq}
use Rattle.value.specs.Numbers.{zero_f, num}
use Rattle.value.specs.Root.{root_f}
use Rattle.value.specs.Total.{total_f}
use Rattle.statistics.specs.declared.StddevAndMean.{StddevAndMean}

abbrev pub square : Float → Float
square v = mul binary64 v v

-- `residual_variance` of a model of k coefficients: the squares of the residuals over n − k, a float step; +0 where n is k
unfoldable pub residual_variance : ℕ → List Float → Float
residual_variance k rs =
    let n = num (length rs) in
    cond (eq n (num k)) zero_f (div binary64 (total_f (map square rs)) (sub binary64 n (num k)))

unfoldable pub mean : List Float → Float
mean l = div binary64 (total_f l) (num (length l))

-- `stddev_and_mean`: of the population, over n and not n − 1
unfoldable pub stddev_and_mean : List Float → StddevAndMean
stddev_and_mean l =
    let m = mean l in
    record { stddev = root_f (div binary64 (total_f (map (λ v. square (sub binary64 v m)) l)) (num (length l))); mean = m }
