-- Laws of Fits.antt.
use Rattle.std.specs.Prelude.{refl, ℕ, Float, Option, Some, None}
use mathlib.Core.List.Memᴰ
use mathlib.Core.List.{List, [], ◌∷◌, Memᴰ}
use Rattle.std.proofs.Common.{⊎_elim}
use Rattle.statistics.specs.declared.DegreeBound.{DegreeBound}
use Rattle.basis.specs.declared.Degree.{Degree}
use Rattle.basis.specs.declared.Basis.TheVariants.{Curve}
use Rattle.samples.specs.declared.Sample.{Sample}
use Rattle.monomial.specs.Rows.{Row, rows_of}
use Rattle.score.specs.declared.Criterion.{Criterion}
use Rattle.refusal.specs.Named.{number_of}
use Rattle.refusal.specs.NamedLaws.{answer_among}
use Rattle.measure.specs.Fits.{FitOut, fit_past}
use Rattle.measure.specs.FitLaws.{fit_past_number}
use Rattle.query.specs.Refusals.{fit_refusal, validate_refusal}
use Rattle.query.specs.RefusalLaws.{fit_numbers, validate_numbers}
use Rattle.query.specs.Fits.{fit_on, validate_past, validate_on}

-- ---- what each may answer, by document 01's numbers

-- 0 or 10 among these
past_among : (k : ℕ) → Memᴰ k (0 ∷ 10 ∷ []) → Memᴰ k (0 ∷ 1 ∷ 4 ∷ 7 ∷ 8 ∷ 10 ∷ [])
past_among k h =
    ⊎_elim (λ e. Memᴰ.head e) (λ m. Memᴰ.append_right (0 ∷ 1 ∷ 4 ∷ 7 ∷ 8 ∷ []) m) (Memᴰ.cases_cons h)

pub fit_answers : (n degree : ℕ) (samples : List Sample) (sums : List Float) (columns : List ℕ) (places scratch coefficients : ℕ)
    → Memᴰ (number_of (fit_on n degree samples sums columns places scratch coefficients).answer) (0 ∷ 1 ∷ 4 ∷ 7 ∷ 8 ∷ 10 ∷ [])
unfolding fit_on
fit_answers n degree samples sums columns places scratch coefficients =
    answer_among (λ (o : FitOut). o.answer) (fit_refusal n degree samples columns places scratch coefficients) (fit_past Curve n degree (rows_of samples) sums) _
    (0 ∷ 1 ∷ 4 ∷ 7 ∷ 8 ∷ []) (10 ∷ []) refl (fit_numbers n samples columns places scratch degree coefficients) refl
    (past_among _ (fit_past_number Curve n degree (rows_of samples) sums))

validate_past_number : (n : ℕ) (o : Option Degree) (rows : List Row) (sums : List Float)
    → Memᴰ (number_of (validate_past n o rows sums).answer) (0 ∷ 1 ∷ 4 ∷ 7 ∷ 8 ∷ 10 ∷ 11 ∷ [])
unfolding validate_past
validate_past_number n None rows sums = Memᴰ.append_right (0 ∷ 1 ∷ 4 ∷ 7 ∷ 8 ∷ 10 ∷ []) (Memᴰ.head refl)
validate_past_number n (Some d) rows sums = Memᴰ.append_left (11 ∷ []) (past_among _ (fit_past_number Curve n d.0 rows sums))

pub validate_answers : (n folds : ℕ) (bound : DegreeBound) (criterion : Criterion) (samples : List Sample) (sums : List Float) (columns : List ℕ) (places scratch coefficients : ℕ)
    → Memᴰ (number_of (validate_on n folds bound criterion samples sums columns places scratch coefficients).answer) (0 ∷ 1 ∷ 4 ∷ 7 ∷ 8 ∷ 10 ∷ 11 ∷ [])
unfolding validate_on
validate_answers n folds bound criterion samples sums columns places scratch coefficients =
    answer_among (λ (o : FitOut). o.answer) (validate_refusal n folds bound samples columns places scratch coefficients) (validate_past n _ (rows_of samples) sums) _
    (0 ∷ 1 ∷ 4 ∷ 7 ∷ 8 ∷ []) (10 ∷ 11 ∷ []) refl (validate_numbers n samples columns places scratch folds bound coefficients) refl
    (validate_past_number n _ (rows_of samples) sums)
