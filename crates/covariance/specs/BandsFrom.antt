-- What the code makes of a value and a root that stand at a place. Not needed to read a public promise. Definitions only.
use Rattle.std.specs.Prelude.{List, ℕ, Float, get_or}
use Rattle.std.specs.Float.{nan, binary64}
use Rattle.std.specs.Float.Ieee.{add, sub, mul}
use Rattle.statistics.specs.declared.Tolerance.{Tolerance}
use Rattle.covariance.specs.declared.Band.{Band}
use Rattle.covariance.specs.Marks.{mark}
use Rattle.covariance.specs.Bands.{width_of, outlies}

-- a band by the root of the widened variance
unfoldable pub band_by : Tolerance → Float → Float → Float → Band
band_by t z value root =
    let e = mul binary64 z root in
    let w = width_of t value in
    record { value = value; lower = sub binary64 (sub binary64 value e) w; upper = add binary64 (add binary64 value e) w }

module _ (t : Tolerance) (z : Float) (values roots : List Float) where
  unfoldable pub band_from : ℕ → Band
  band_from i = band_by t z (get_or values i nan) (get_or roots i nan)

  unfoldable pub outlier_from : List Float → ℕ → ℕ
  outlier_from ys i = mark (outlies (band_from i) (get_or ys i nan))
