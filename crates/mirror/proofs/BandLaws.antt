-- The standard deviation, bands and marks of rows alike but for the sign of y, under every tolerance: lower and upper change places and sign, and the
-- marks are equal.
use Rattle.std.specs.Prelude.{◌≡◌, refl, Bool, true, false, ◌||◌, List, ℕ, length, Float}
use Rattle.std.proofs.Common.{ap, ap₂, ◌∙◌}
use Rattle.std.specs.Float.Ieee.{binary64, sub, mul, lt}
use Rattle.value.specs.Numbers.{num}
use Rattle.statistics.specs.Variances.{square, mean, stddev_and_mean}
use Rattle.statistics.specs.declared.Tolerance.{Tolerance}
use Rattle.statistics.specs.declared.Tolerance.TheVariants as tolerance
use Rattle.monomial.specs.Rows.{Row, ys_in}
use Rattle.covariance.specs.declared.Band.{Band}
use Rattle.covariance.specs.Covariance.{prediction_variance}
use Rattle.covariance.specs.Marks.{mark}
use Rattle.covariance.specs.Bands.{width_of, band_of, band_at, outlies, lower_of, upper_of, outlier_of, lowers_of, uppers_of, outliers_of}
use Rattle.signs.specs.Opposite.{Opposite}
use Rattle.signs.specs.Steps.{sub_opposite, sub_add_opposite, add_sub_opposite, div_opposite, abs_opposite, square_opposite, lt_opposite}
use Rattle.mirror.specs.PairLaws.{pairs_length, pairs_map, pairs_equal}
use Rattle.mirror.specs.Mirror.{MirrorRows, Opposites, MirrorBand}
use Rattle.mirror.specs.SumLaws.{total_opposite}
use Rattle.mirror.specs.FitLaws.{fitted_mirror}

-- ---- the standard deviation of opposite y's

module _ {l m : List Float} (o : Opposites l m) where
  pub mean_mirror : Opposite (mean l) (mean m)
  unfolding mean
  mean_mirror = rw (pairs_length o) (div_opposite binary64 (total_opposite o) (num (length m)))

  pub deviation_mirror : (stddev_and_mean l).stddev ≡ (stddev_and_mean m).stddev
  unfolding stddev_and_mean
  deviation_mirror =
      let e = pairs_equal (λ v. square (sub binary64 v (mean l))) (λ v. square (sub binary64 v (mean m))) (λ a b q. square_opposite (sub_opposite binary64 q mean_mirror)) o in
      rw (pairs_length o, e)

-- that of all y's
pub ys_mirror : {rs qs : List Row} → MirrorRows rs qs → Opposites (ys_in rs) (ys_in qs)
ys_mirror p = pairs_map Opposite (λ (r : Row). r.y) (λ (q : Row). q.y) (λ r q h. h.y) p

pub rows_deviation_mirror : {rs qs : List Row} → MirrorRows rs qs → (stddev_and_mean (ys_in rs)).stddev ≡ (stddev_and_mean (ys_in qs)).stddev
rows_deviation_mirror p = deviation_mirror (ys_mirror p)

-- ---- a band

-- the width does not see the sign of the value, with measurement tolerance neither
width_mirror : (t : Tolerance) {v w : Float} → Opposite v w → width_of t v ≡ width_of t w
width_mirror tolerance.None o = refl
width_mirror (tolerance.Absolute a) o = refl
width_mirror (tolerance.Variance p) o = refl
width_mirror (tolerance.Measurement p) o = ap (λ (x : Float). mul binary64 x p) (abs_opposite o)

pub band_of_mirror : (t : Tolerance) (z sd variance : Float) {v w : Float} → Opposite v w → MirrorBand (band_of t z sd v variance) (band_of t z sd w variance)
unfolding band_of
band_of_mirror t z sd variance o =
    record {
      value = o;
      lower = rw (width_mirror t o) (sub_add_opposite binary64 (sub_add_opposite binary64 o _) _);
      upper = rw (width_mirror t o) (add_sub_opposite binary64 (add_sub_opposite binary64 o _) _);
    }

-- y is outside the one as −y is outside the other
pub outlies_mirror : {a b : Band} {y u : Float} → MirrorBand a b → Opposite y u → outlies a y ≡ outlies b u
outlies_mirror {a} {b} {y} {u} h o = ap₂ ◌||◌ (lt_opposite o h.lower) (lt_opposite h.upper o) ∙ swap (lt b.upper u) (lt u b.lower)
  where
    swap : (p q : Bool) → (p || q) ≡ (q || p)
    swap true true = refl
    swap true false = refl
    swap false true = refl
    swap false false = refl

-- ---- the bands and marks of a list of samples, with k opposite coefficients and one covariance

module _ (k : ℕ) {c d : List Float} (o : Opposites c d) (covariance : List Float) (t : Tolerance) (z sd : Float) where
  pub band_mirror : (terms : List Float) → MirrorBand (band_at k c covariance t z sd terms) (band_at k d covariance t z sd terms)
  unfolding band_at
  band_mirror terms = band_of_mirror t z sd (prediction_variance k terms covariance) (fitted_mirror k terms o)

  pub lowers_mirror : {rs qs : List Row} → MirrorRows rs qs → Opposites (lowers_of k c covariance t z sd rs) (uppers_of k d covariance t z sd qs)
  unfolding lower_of upper_of
  lowers_mirror p = pairs_map Opposite (lower_of k c covariance t z sd) (upper_of k d covariance t z sd) (λ r q h. rw h.terms (band_mirror q.terms).lower) p

  pub uppers_mirror : {rs qs : List Row} → MirrorRows rs qs → Opposites (uppers_of k c covariance t z sd rs) (lowers_of k d covariance t z sd qs)
  unfolding lower_of upper_of
  uppers_mirror p = pairs_map Opposite (upper_of k c covariance t z sd) (lower_of k d covariance t z sd) (λ r q h. rw h.terms (band_mirror q.terms).upper) p

  pub outliers_mirror : {rs qs : List Row} → MirrorRows rs qs → outliers_of k c covariance t z sd rs ≡ outliers_of k d covariance t z sd qs
  unfolding outlier_of
  outliers_mirror p =
      pairs_equal (outlier_of k c covariance t z sd) (outlier_of k d covariance t z sd) (λ r q h. rw h.terms (ap mark (outlies_mirror (band_mirror q.terms) h.y))) p
