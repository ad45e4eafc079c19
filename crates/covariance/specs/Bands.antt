-- `confidence_band` and `outliers`. Definitions only.
use Rattle.std.specs.Prelude.{Bool, ◌||◌, List, map, ℕ, Float}
use Rattle.std.specs.Float.{binary64}
use Rattle.std.specs.Float.Ieee.{add, sub, mul, lt}
use Rattle.value.specs.Absolute.{abs_f}
use Rattle.value.specs.Numbers.{zero_f}
use Rattle.value.specs.Root.{root_f}
use Rattle.statistics.specs.Variances.{square}
use Rattle.statistics.specs.declared.Tolerance.{Tolerance}
use Rattle.statistics.specs.declared.Tolerance.TheVariants as tolerance
use Rattle.monomial.specs.Rows.{Row, fitted}
use Rattle.covariance.specs.declared.Band.{Band}
use Rattle.covariance.specs.Covariance.{prediction_variance}
use Rattle.covariance.specs.Marks.{mark}

-- what stands under the root: the prediction variance, and with tolerance variance (sd × p) × (sd × p) more, sd that of all y's
abbrev pub widened : Tolerance → Float → Float → Float
widened tolerance.None sd v = v
widened (tolerance.Absolute a) sd v = v
widened (tolerance.Variance p) sd v = add binary64 v (square (mul binary64 sd p))
widened (tolerance.Measurement p) sd v = v

-- the width: +0 with tolerance none and variance, absolute its number, measurement |value| × p
abbrev pub width_of : Tolerance → Float → Float
width_of tolerance.None value = zero_f
width_of (tolerance.Absolute a) value = a
width_of (tolerance.Variance p) value = zero_f
width_of (tolerance.Measurement p) value = mul binary64 (abs_f value) p

-- A band: value; lower = (value − z × se) − tol; upper = (value + z × se) + tol.
unfoldable pub band_of : Tolerance → Float → Float → Float → Float → Band
band_of t z sd value variance =
    let e = mul binary64 z (root_f (widened t sd variance)) in
    let w = width_of t value in
    record { value = value; lower = sub binary64 (sub binary64 value e) w; upper = add binary64 (add binary64 value e) w }

-- the band at a row of term values, for k coefficients c with their covariance
unfoldable pub band_at : ℕ → List Float → List Float → Tolerance → Float → Float → List Float → Band
band_at k c covariance t z sd terms = band_of t z sd (fitted k c terms) (prediction_variance k terms covariance)

-- `outliers`: y is below the band or above it
abbrev pub outlies : Band → Float → Bool
outlies b y = lt y b.lower || lt b.upper y

-- Per sample lower, upper and an outlier byte, over rows, for k coefficients c with their covariance.
module _ (k : ℕ) (c covariance : List Float) (t : Tolerance) (z sd : Float) where
  unfoldable pub lower_of : Row → Float
  lower_of r = (band_at k c covariance t z sd r.terms).lower

  unfoldable pub upper_of : Row → Float
  upper_of r = (band_at k c covariance t z sd r.terms).upper

  -- 1 if its y is an outlier, else 0
  unfoldable pub outlier_of : Row → ℕ
  outlier_of r = mark (outlies (band_at k c covariance t z sd r.terms) r.y)

  abbrev pub lowers_of : List Row → List Float
  lowers_of rows = map lower_of rows

  abbrev pub uppers_of : List Row → List Float
  uppers_of rows = map upper_of rows

  abbrev pub outliers_of : List Row → List ℕ
  outliers_of rows = map outlier_of rows
