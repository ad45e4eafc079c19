-- Laws of Spread.antt.
use Rattle.std.specs.Prelude.{◌≡◌, List, ℕ, Float}
use Rattle.std.proofs.Math.Path.{refl, ap}
use Rattle.statistics.specs.declared.Tolerance.{Tolerance}
use Rattle.statistics.specs.declared.Tolerance.TheVariants as tolerance
use Rattle.covariance.specs.Marks.{mark}
use Rattle.covariance.specs.Bands.{band_of, band_at, outlies, lower_of, upper_of, outlier_of}
use Rattle.covariance.specs.Spread.{DoesFor}

module _ (k : ℕ) (c v : List Float) (z : Float) where
  -- then it makes the same bands
  same_bands : (t : Tolerance) (a b : Float) → DoesFor t a b → band_at k c v t z a ≡ band_at k c v t z b
  unfolding band_at band_of
  same_bands tolerance.None a b h = refl
  same_bands (tolerance.Absolute w) a b h = refl
  same_bands (tolerance.Variance p) a b h = ap (λ s. band_at k c v (tolerance.Variance p) z s) h
  same_bands (tolerance.Measurement p) a b h = refl

  pub same_lower : (t : Tolerance) (a b : Float) → DoesFor t a b → lower_of k c v t z a ≡ lower_of k c v t z b
  unfolding lower_of
  same_lower t a b h = λ i r. (same_bands t a b h i r.terms).lower

  pub same_upper : (t : Tolerance) (a b : Float) → DoesFor t a b → upper_of k c v t z a ≡ upper_of k c v t z b
  unfolding upper_of
  same_upper t a b h = λ i r. (same_bands t a b h i r.terms).upper

  pub same_outlier : (t : Tolerance) (a b : Float) → DoesFor t a b → outlier_of k c v t z a ≡ outlier_of k c v t z b
  unfolding outlier_of
  same_outlier t a b h = λ i r. mark (outlies (same_bands t a b h i r.terms) r.y)
