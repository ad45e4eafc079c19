-- Document 01's "Refused, in checking order", for the calls that read a book, but for the report: refusals 1 to 9, one list of tests a call, over its
-- arguments, the count, the samples and the lengths of the lent memory. Definitions only.
use Rattle.std.specs.Prelude.{not, ◌&&◌, List, [], ◌∷◌, ℕ, Float}
use Rattle.basis.specs.Sizes.{max_terms, sum_places}
use Rattle.value.specs.Finite.{finite}
use Rattle.statistics.specs.declared.Confidence.{Confidence}
use Rattle.statistics.specs.declared.DegreeBound.{DegreeBound}
use Rattle.statistics.specs.declared.Tolerance.{Tolerance}
use Rattle.samples.specs.Samples.{xs_of}
use Rattle.samples.specs.declared.Sample.{Sample}
use Rattle.refusal.specs.Refusals.{Test, by, first_of}
use Rattle.refusal.specs.Tests.{Needed, needed, too_short, all_finite, score_finite, tolerance_finite, no_samples, wrong_folds, degree_too_high, bound_too_high, outside}

-- what 1 judges of a fit or a validation, and of a band
abbrev pub fit_needs : ℕ → ℕ → ℕ → ℕ → List Needed
fit_needs n sums scratch coefficients = needed sum_places sums ∷ needed n scratch ∷ needed max_terms coefficients ∷ []

abbrev pub band_needs : ℕ → ℕ → ℕ → List Needed
band_needs n sums scratch = needed sum_places sums ∷ needed n scratch ∷ []

module _ (n : ℕ) (samples : List Sample) (columns : List ℕ) (sums scratch : ℕ) where
  abbrev pub fit_tests : ℕ → ℕ → List Test
  fit_tests degree coefficients =
      by (too_short n columns (fit_needs n sums scratch coefficients)) 1 ∷ by (not (all_finite samples)) 4 ∷ by (no_samples n) 7 ∷ by (degree_too_high n degree) 8 ∷ []

  abbrev pub validate_tests : ℕ → DegreeBound → ℕ → List Test
  validate_tests folds bound coefficients =
      by (too_short n columns (fit_needs n sums scratch coefficients)) 1 ∷ by (not (all_finite samples)) 4 ∷ by (wrong_folds n folds) 7 ∷ by (bound_too_high bound n) 8 ∷ []

  abbrev pub band_tests : Float → ℕ → Confidence → Tolerance → List Test
  band_tests x degree confidence tolerance =
      by (too_short n columns (band_needs n sums scratch)) 1
      ∷ by (not (finite x && score_finite confidence && tolerance_finite tolerance && all_finite samples)) 4 ∷ by (no_samples n) 7 ∷ by (degree_too_high n degree) 8
      ∷ by (outside x (xs_of samples)) 9 ∷ []

-- ---- the number of the first that holds

unfoldable pub fit_refusal : ℕ → ℕ → List Sample → List ℕ → ℕ → ℕ → ℕ → ℕ
fit_refusal n degree samples columns sums scratch coefficients = first_of (fit_tests n samples columns sums scratch degree coefficients)

unfoldable pub validate_refusal : ℕ → ℕ → DegreeBound → List Sample → List ℕ → ℕ → ℕ → ℕ → ℕ
validate_refusal n folds bound samples columns sums scratch coefficients = first_of (validate_tests n samples columns sums scratch folds bound coefficients)

unfoldable pub band_refusal : ℕ → Float → ℕ → Confidence → Tolerance → List Sample → List ℕ → ℕ → ℕ → ℕ
band_refusal n x degree confidence tolerance samples columns sums scratch = first_of (band_tests n samples columns sums scratch x degree confidence tolerance)
