-- "Refused, in checking order", for a surface's calls: refusals 1 to 9, one list of tests a call, over its arguments, the count, the samples and the
-- lengths of the lent memory. Definitions only.
use Rattle.std.specs.Prelude.{Bool, not, ◌&&◌, ◌||◌, List, [], ◌∷◌, ℕ, ltb, Float}
use Rattle.loops.specs.Fold.{all_of}
use Rattle.basis.specs.Counts.{count_of}
use Rattle.basis.specs.declared.Basis.TheVariants.{Surface}
use Rattle.value.specs.Finite.{finite}
use Rattle.statistics.specs.Degrees.{max_degree}
use Rattle.statistics.specs.declared.Confidence.{Confidence}
use Rattle.statistics.specs.declared.DegreeBound.{DegreeBound}
use Rattle.statistics.specs.declared.Tolerance.{Tolerance}
use Rattle.refusal.specs.Refusals.{Test, by, first_of}
use Rattle.refusal.specs.Tests.{Needed, needed, too_short, score_finite, tolerance_finite, no_samples, outside}
use Rattle.settings.specs.declared.Settings.{Settings}
use Rattle.measure.specs.Places.{term_places}
use Rattle.reporting.specs.declared.Places.{Places}
use Rattle.surface.specs.Points.{Point, xs_in, zs_in}

-- the highest total degree: a + b is at most 4
abbrev pub highest_total : ℕ
highest_total = 4

-- ---- 1: what each call needs; it is lent no sums

abbrev pub surface_fit_needs : ℕ → ℕ → ℕ → List Needed
surface_fit_needs n scratch coefficients = needed n scratch ∷ needed (term_places Surface) coefficients ∷ []

abbrev pub surface_report_needs : ℕ → Places → List Needed
surface_report_needs n p =
    needed n p.scratch ∷ needed (term_places Surface) p.coefficients ∷ needed (term_places Surface) p.errors ∷ needed (term_places Surface) p.pruned
    ∷ needed n p.lower ∷ needed n p.upper ∷ needed n p.outliers ∷ []

abbrev pub surface_band_needs : ℕ → ℕ → List Needed
surface_band_needs n scratch = needed n scratch ∷ []

-- ---- 4: a column value below the count is not finite, z too

abbrev pub point_finite : Point → Bool
point_finite p = finite p.x && finite p.z && finite p.y

abbrev pub points_finite : List Point → Bool
points_finite ps = all_of point_finite ps

-- ---- 8: an asked or bounded total degree above 4, and an asked one with more terms than samples

abbrev pub total_too_high : ℕ → ℕ → Bool
total_too_high n degree = ltb highest_total degree || ltb n (count_of Surface degree)

abbrev pub total_bound_too_high : DegreeBound → ℕ → Bool
total_bound_too_high bound n = ltb highest_total (max_degree bound n)

-- ---- 9: a band's x outside the least to greatest x, or its z outside the least to greatest z

abbrev pub outside_points : Float → Float → List Point → Bool
outside_points x z points = outside x (xs_in points) || outside z (zs_in points)

-- ---- each call's tests, in checking order

module _ (n : ℕ) (points : List Point) (columns : List ℕ) where
  abbrev pub surface_fit_tests : ℕ → ℕ → ℕ → List Test
  surface_fit_tests degree scratch coefficients =
      by (too_short n columns (surface_fit_needs n scratch coefficients)) 1 ∷ by (not (points_finite points)) 4 ∷ by (no_samples n) 7 ∷ by (total_too_high n degree) 8 ∷ []

  abbrev pub surface_report_tests : Settings → Places → List Test
  surface_report_tests settings places =
      by (too_short n columns (surface_report_needs n places)) 1
      ∷ by (not (score_finite settings.confidence && tolerance_finite settings.tolerance && points_finite points)) 4 ∷ by (no_samples n) 7
      ∷ by (total_bound_too_high settings.bound n) 8 ∷ []

  abbrev pub surface_band_tests : Float → Float → ℕ → Confidence → Tolerance → ℕ → List Test
  surface_band_tests x z degree confidence tolerance scratch =
      by (too_short n columns (surface_band_needs n scratch)) 1
      ∷ by (not (finite x && finite z && score_finite confidence && tolerance_finite tolerance && points_finite points)) 4 ∷ by (no_samples n) 7
      ∷ by (total_too_high n degree) 8 ∷ by (outside_points x z points) 9 ∷ []

  -- ---- the number of the first that holds

  unfoldable pub surface_fit_refusal : ℕ → ℕ → ℕ → ℕ
  surface_fit_refusal degree scratch coefficients = first_of (surface_fit_tests degree scratch coefficients)

  unfoldable pub surface_report_refusal : Settings → Places → ℕ
  surface_report_refusal settings places = first_of (surface_report_tests settings places)

  unfoldable pub surface_band_refusal : Float → Float → ℕ → Confidence → Tolerance → ℕ → ℕ
  surface_band_refusal x z degree confidence tolerance scratch = first_of (surface_band_tests x z degree confidence tolerance scratch)
