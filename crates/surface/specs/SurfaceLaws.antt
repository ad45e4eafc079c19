-- What a surface's calls may answer, by their numbers, and that these stand in the checking order.
use Rattle.std.specs.Prelude.{refl, ℕ, Float, Option}
use mathlib.Core.List.Memᴰ
use mathlib.Core.List.{List, [], ◌∷◌, Memᴰ}
use Rattle.std.proofs.Common.{⊎_elim}
use Rattle.basis.specs.declared.Degree.{Degree}
use Rattle.basis.specs.declared.Basis.TheVariants.{Surface}
use Rattle.statistics.specs.declared.Confidence.{Confidence}
use Rattle.statistics.specs.declared.Tolerance.{Tolerance}
use Rattle.monomial.specs.Rows.{Row}
use Rattle.refusal.specs.Refusals.{InOrder, those, is_among}
use Rattle.refusal.specs.Named.{number_of}
use Rattle.refusal.specs.NamedLaws.{answer_among}
use Rattle.settings.specs.declared.Settings.{Settings}
use Rattle.measure.specs.Fits.{FitOut, fit_past}
use Rattle.measure.specs.FitLaws.{fit_past_number}
use Rattle.measure.specs.Bands.{BandOut, band_past}
use Rattle.measure.specs.BandLaws.{band_past_number}
use Rattle.reporting.specs.declared.Places.{Places}
use Rattle.reporting.specs.ChosenLaws.{chosen_numbers}
use Rattle.reporting.specs.LimitedLaws.{report_number_lem}
use Rattle.reporting.specs.Reports.{ReportOut, report_of}
use Rattle.surface.specs.Points.{Point, rows_of_points, surface_sums}
use Rattle.surface.specs.Refusals.{surface_fit_refusal, surface_report_refusal, surface_band_refusal}
use Rattle.surface.specs.RefusalLaws.{surface_fit_numbers, surface_report_numbers, surface_band_numbers}
use Rattle.surface.specs.Surfaces.{surface_fit_on, surface_band_on, surface_report_past, surface_report_on}

pub surface_fit_answers : (n degree : ℕ) (points : List Point) (columns : List ℕ) (scratch coefficients : ℕ)
    → Memᴰ (number_of (surface_fit_on n degree points columns scratch coefficients).answer) (0 ∷ 1 ∷ 4 ∷ 7 ∷ 8 ∷ 10 ∷ [])
unfolding surface_fit_on
surface_fit_answers n degree points columns scratch coefficients =
    answer_among (λ (o : FitOut). o.answer) (surface_fit_refusal n points columns degree scratch coefficients)
    (fit_past Surface n degree (rows_of_points points) (surface_sums points)) _ (0 ∷ 1 ∷ 4 ∷ 7 ∷ 8 ∷ []) (10 ∷ []) refl
    (surface_fit_numbers n points columns degree scratch coefficients) refl
    (⊎_elim (λ e. Memᴰ.head e) (λ m. Memᴰ.append_right (0 ∷ 1 ∷ 4 ∷ 7 ∷ 8 ∷ []) m)
    (Memᴰ.cases_cons (fit_past_number Surface n degree (rows_of_points points) (surface_sums points))))

pub surface_band_answers : (n : ℕ) (x z : Float) (degree : ℕ) (confidence : Confidence) (tolerance : Tolerance) (points : List Point) (columns : List ℕ) (scratch : ℕ)
    → Memᴰ (number_of (surface_band_on n x z degree confidence tolerance points columns scratch).answer) (0 ∷ 1 ∷ 4 ∷ 7 ∷ 8 ∷ 9 ∷ 10 ∷ 12 ∷ [])
unfolding surface_band_on
surface_band_answers n x z degree confidence tolerance points columns scratch =
    answer_among (λ (o : BandOut). o.answer) (surface_band_refusal n points columns x z degree confidence tolerance scratch)
    (band_past Surface n x z degree confidence tolerance (rows_of_points points) (surface_sums points)) _ (0 ∷ 1 ∷ 4 ∷ 7 ∷ 8 ∷ 9 ∷ []) (10 ∷ 12 ∷ []) refl
    (surface_band_numbers n points columns x z degree confidence tolerance scratch) refl
    (⊎_elim (λ e. Memᴰ.head e) (λ m. Memᴰ.append_right (0 ∷ 1 ∷ 4 ∷ 7 ∷ 8 ∷ 9 ∷ []) m)
    (Memᴰ.cases_cons (band_past_number Surface n x z degree confidence tolerance (rows_of_points points) (surface_sums points))))

past_number : (n : ℕ) (settings : Settings) (rows : List Row) (sums : List Float) (solved : ℕ) (o : Option Degree)
    → Memᴰ (number_of (report_of Surface n settings rows sums solved o).answer) (0 ∷ 1 ∷ 4 ∷ 7 ∷ 8 ∷ 11 ∷ 12 ∷ [])
past_number n settings rows sums solved o = rw (report_number_lem Surface n settings rows sums solved o) (chosen_numbers Surface o sums)

pub surface_report_answers : (n : ℕ) (settings : Settings) (points : List Point) (columns : List ℕ) (places : Places)
    → Memᴰ (number_of (surface_report_on n settings points columns places).answer) (0 ∷ 1 ∷ 4 ∷ 7 ∷ 8 ∷ 11 ∷ 12 ∷ [])
unfolding surface_report_on surface_report_past
surface_report_answers n settings points columns places =
    answer_among (λ (o : ReportOut). o.answer) (surface_report_refusal n points columns settings places)
    (surface_report_past n settings (rows_of_points points) (surface_sums points)) _ (0 ∷ 1 ∷ 4 ∷ 7 ∷ 8 ∷ []) (11 ∷ 12 ∷ []) refl
    (surface_report_numbers n points columns settings places) refl (past_number n settings (rows_of_points points) (surface_sums points) _ _)

-- they too stand in the checking order
pub answers_in_order : InOrder (1 ∷ 4 ∷ 7 ∷ 8 ∷ 10 ∷ []) × InOrder (1 ∷ 4 ∷ 7 ∷ 8 ∷ 9 ∷ 10 ∷ 12 ∷ []) × InOrder (1 ∷ 4 ∷ 7 ∷ 8 ∷ 11 ∷ 12 ∷ [])
unfolding those is_among
answers_in_order = (refl, refl, refl)
