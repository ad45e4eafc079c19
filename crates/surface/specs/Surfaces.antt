-- Document 02's surface fit, report and band: what they answer and write, from samples and lengths. Solving, scores, choice, covariance, bands and pruning are
-- the definitions that the curve has, for a list of term values. Definitions only.
use Rattle.std.specs.Prelude.{cond, List, [], ◌∷◌, ℕ, zero, suc, leb, length, Float}
use Rattle.basis.specs.Counts.{count_of}
use Rattle.basis.specs.declared.Basis.TheVariants.{Surface}
use Rattle.statistics.specs.Degrees.{max_degree}
use Rattle.statistics.specs.declared.Confidence.{Confidence}
use Rattle.statistics.specs.declared.Tolerance.{Tolerance}
use Rattle.monomial.specs.Rows.{Row}
use Rattle.fit.specs.Chosen.{choice_of, counts_of}
use Rattle.fit.specs.declared.Choice.{Choice}
use Rattle.refusal.specs.Refusals.{settle}
use Rattle.settings.specs.declared.Settings.{Settings}
use Rattle.measure.specs.Fits.{FitOut, fit_refused, fit_past}
use Rattle.measure.specs.Bands.{BandOut, band_refused, band_past}
use Rattle.reporting.specs.declared.Places.{Places}
use Rattle.reporting.specs.Outputs.{LentOutputs, places_of}
use Rattle.reporting.specs.Reports.{ReportAnswer, ReportOut, refused_early, report_of, Does}
use Rattle.surface.specs.Points.{Point, PointColumns, point_lengths, points_of, rows_of_points, surface_sums}
use Rattle.surface.specs.Refusals.{surface_fit_refusal, surface_report_refusal, surface_band_refusal}

-- ---- the fit

-- a fit of n samples; columns, scratch and coefficients have these lengths
unfoldable pub surface_fit_on : ℕ → ℕ → List Point → List ℕ → ℕ → ℕ → FitOut
surface_fit_on n degree points columns scratch coefficients =
    let r = surface_fit_refusal n points columns degree scratch coefficients in
    settle r (fit_past Surface n degree (rows_of_points points) (surface_sums points)) (fit_refused r)

-- the same on what stands in memory: what the call does
abbrev pub surface_fit_out : ℕ → ℕ → PointColumns → List Float → List Float → FitOut
surface_fit_out n degree columns scratch coefficients =
    surface_fit_on n degree (points_of n columns) (point_lengths columns) (length scratch) (length coefficients)

-- ---- the band

unfoldable pub surface_band_on : ℕ → Float → Float → ℕ → Confidence → Tolerance → List Point → List ℕ → ℕ → BandOut
surface_band_on n x z degree confidence tolerance points columns scratch =
    let r = surface_band_refusal n points columns x z degree confidence tolerance scratch in
    settle r (band_past Surface n x z degree confidence tolerance (rows_of_points points) (surface_sums points)) (band_refused r)

abbrev pub surface_band_out : ℕ → Float → Float → ℕ → Confidence → Tolerance → PointColumns → List Float → BandOut
surface_band_out n x z degree confidence tolerance columns scratch =
    surface_band_on n x z degree confidence tolerance (points_of n columns) (point_lengths columns) (length scratch)

-- ---- the report

-- those of the counts that are at most n, in order
unfoldable pub at_most : ℕ → List ℕ → List ℕ
at_most n [] = []
at_most n (k ∷ ks) = let rest = at_most n ks in cond (leb k n) (k ∷ rest) rest

-- Total degrees 0 to the bound are tried; a total degree with more terms than samples is not tried.
unfoldable pub surface_counts : ℕ → ℕ → List ℕ
surface_counts n bound = at_most n (counts_of Surface bound)

-- the last total degree up to the bound whose terms are at most n; 0 where there is none
unfoldable pub last_tried : ℕ → ℕ → ℕ
last_tried n zero = 0
last_tried n (suc d) = let before = last_tried n d in cond (leb (count_of Surface (suc d)) n) (suc d) before

-- The bound is `max_degree` for the setting and n. The choice is a report's, among these counts.
unfoldable pub surface_choice : ℕ → Settings → List Row → List Float → Choice
surface_choice n settings rows sums = choice_of settings.criterion sums rows (surface_counts n (max_degree settings.bound n))

-- past refusals 1 to 9
unfoldable pub surface_report_past : ℕ → Settings → List Row → List Float → ReportOut
surface_report_past n settings rows sums =
    let choice = surface_choice n settings rows sums in
    report_of Surface n settings rows sums choice.solved choice.chosen

unfoldable pub surface_report_on : ℕ → Settings → List Point → List ℕ → Places → ReportOut
surface_report_on n settings points columns places =
    let r = surface_report_refusal n points columns settings places in
    settle r (surface_report_past n settings (rows_of_points points) (surface_sums points)) (refused_early r)

abbrev pub surface_report_out : ℕ → Settings → PointColumns → Places → ReportOut
surface_report_out n settings columns places = surface_report_on n settings (points_of n columns) (point_lengths columns) places

-- the promise: a report of these columns
abbrev pub SurfaceReportIs : ℕ → Settings → PointColumns → ReportAnswer → LentOutputs → Type 0
SurfaceReportIs n settings columns r w = Does (surface_report_out n settings columns (places_of w.found)) r w
