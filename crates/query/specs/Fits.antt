-- Document 01's single fit and validation: what they answer and write, from samples, sums and lengths. Definitions only.
use Rattle.std.specs.Prelude.{List, [], ℕ, length, take, Float, Option, Some, None}
use Rattle.basis.specs.declared.Degree.{Degree}
use Rattle.basis.specs.Sizes.{sum_places}
use Rattle.statistics.specs.Degrees.{max_degree}
use Rattle.statistics.specs.declared.DegreeBound.{DegreeBound}
use Rattle.basis.specs.declared.Basis.TheVariants.{Curve}
use Rattle.samples.specs.declared.Sample.{Sample}
use Rattle.samples.specs.Columns.{samples_of, Columns, lengths}
use Rattle.monomial.specs.Rows.{Row, rows_of, weighted_rows}
use Rattle.score.specs.declared.Criterion.{Criterion}
use Rattle.folds.specs.Folds.{validated_choice}
use Rattle.refusal.specs.Refusals.{settle}
use Rattle.lent.specs.Written.{zeros}
use Rattle.refusal.specs.Named.{refused_by}
use Rattle.measure.specs.Fits.{FitOut, fit_refused, fit_past}
use Rattle.query.specs.Refusals.{fit_refusal, validate_refusal}

-- a fit of a book of n samples with these sums, columns, sums, scratch and coefficients of these lengths
unfoldable pub fit_on : ℕ → ℕ → List Sample → List Float → List ℕ → ℕ → ℕ → ℕ → FitOut
fit_on n degree samples sums columns places scratch coefficients =
    let r = fit_refusal n degree samples columns places scratch coefficients in
    settle r (fit_past Curve n degree (rows_of samples) sums) (fit_refused r)

-- Validation, past 1 to 9: 11 if no degree is chosen; else its answer is the single fit at the chosen degree.
unfoldable pub validate_past : ℕ → Option Degree → List Row → List Float → FitOut
validate_past n None rows sums = record { answer = refused_by 11; scratch = zeros n; coefficients = [] }
validate_past n (Some d) rows sums = fit_past Curve n d.0 rows sums

unfoldable pub validate_on : ℕ → ℕ → DegreeBound → Criterion → List Sample → List Float → List ℕ → ℕ → ℕ → ℕ → FitOut
validate_on n folds bound criterion samples sums columns places scratch coefficients =
    let r = validate_refusal n folds bound samples columns places scratch coefficients in
    settle r (validate_past n (validated_choice criterion (weighted_rows samples) folds (max_degree bound n)) (rows_of samples) sums) (fit_refused r)

-- the same on what stands in memory: what the calls do
module _ (n : ℕ) (columns : Columns) (sums scratch coefficients : List Float) where
  abbrev pub fit_out : ℕ → FitOut
  fit_out degree =
      fit_on n degree (samples_of n columns) (take sum_places sums) (lengths columns) (length sums) (length scratch) (length coefficients)

  abbrev pub validate_out : ℕ → DegreeBound → Criterion → FitOut
  validate_out folds bound criterion =
      validate_on n folds bound criterion (samples_of n columns) (take sum_places sums) (lengths columns) (length sums) (length scratch) (length coefficients)
