-- A surface's fit, report and band, asked alike of samples alike but for the sign of every y.
use Rattle.std.specs.Prelude.{◌≡◌, List, ℕ, Float}
use Rattle.basis.specs.declared.Basis.TheVariants.{Surface}
use Rattle.statistics.specs.Degrees.{max_degree}
use Rattle.statistics.specs.declared.Confidence.{Confidence}
use Rattle.statistics.specs.declared.Tolerance.{Tolerance}
use Rattle.settings.specs.declared.Settings.{Settings}
use Rattle.reporting.specs.declared.Places.{Places}
use Rattle.surface.specs.Points.{Point, rows_of_points, surface_sums}
use Rattle.surface.specs.Refusals.{surface_fit_refusal, surface_report_refusal, surface_band_refusal}
use Rattle.surface.specs.Surfaces.{surface_counts, surface_choice, surface_report_past, surface_fit_on, surface_band_on, surface_report_on}
use Rattle.mirror.specs.FitLaws.{choice_mirror}
use Rattle.mirrored.specs.Samples.{MirrorPoints}
use Rattle.mirrored.specs.SampleLaws.{point_rows_mirror, surface_sums_mirror, xs_in_mirror, zs_in_mirror, points_finite_mirror}
use Rattle.mirrored.specs.Replies.{MirrorFit, MirrorBandOut, MirrorReport, BySize}
use Rattle.mirrored.proofs.ReplyLaws.{settle_mirror, fit_refused_lem, band_refused_lem, report_refused, fit_past_mirror, band_past_mirror, report_of_mirror}

module _ {ps qs : List Point} (p : MirrorPoints ps qs) (n : ℕ) (columns : List ℕ) where
  pub surface_fit_mirror : (degree scratch coefficients : ℕ)
      → MirrorFit (surface_fit_on n degree ps columns scratch coefficients) (surface_fit_on n degree qs columns scratch coefficients)
  unfolding surface_fit_on surface_fit_refusal
  surface_fit_mirror degree scratch coefficients =
      rw (points_finite_mirror p)
      (settle_mirror MirrorFit (surface_fit_refusal n qs columns degree scratch coefficients)
      (fit_past_mirror Surface (surface_sums_mirror p) (point_rows_mirror p) n degree) (fit_refused_lem (surface_fit_refusal n qs columns degree scratch coefficients)))

  -- 9 is judged by the x's and z's alone
  pub surface_band_mirror : (x z : Float) (degree : ℕ) (confidence : Confidence) (tolerance : Tolerance) (scratch : ℕ)
      → MirrorBandOut (surface_band_on n x z degree confidence tolerance ps columns scratch) (surface_band_on n x z degree confidence tolerance qs columns scratch)
  unfolding surface_band_on surface_band_refusal
  surface_band_mirror x z degree confidence tolerance scratch =
      rw (points_finite_mirror p, xs_in_mirror p, zs_in_mirror p)
      (settle_mirror MirrorBandOut (surface_band_refusal n qs columns x z degree confidence tolerance scratch)
      (band_past_mirror Surface (surface_sums_mirror p) (point_rows_mirror p) n x z degree confidence tolerance) (band_refused_lem (surface_band_refusal n qs columns x z degree confidence tolerance scratch)))

  -- the chosen total degree, the scores, the pivot tests: all of the choice
  pub surface_choice_mirror : (settings : Settings)
      → surface_choice n settings (rows_of_points ps) (surface_sums ps) ≡ surface_choice n settings (rows_of_points qs) (surface_sums qs)
  unfolding surface_choice
  surface_choice_mirror settings =
      choice_mirror settings.criterion (surface_sums_mirror p) (point_rows_mirror p) (surface_counts n (max_degree settings.bound n))

  surface_past_mirror : (settings : Settings)
      → MirrorReport (BySize settings) (surface_report_past n settings (rows_of_points ps) (surface_sums ps)) (surface_report_past n settings (rows_of_points qs) (surface_sums qs))
  unfolding surface_report_past
  surface_past_mirror settings =
      let c = surface_choice n settings (rows_of_points qs) (surface_sums qs) in
      rw (surface_choice_mirror settings) (report_of_mirror Surface (surface_sums_mirror p) (point_rows_mirror p) n settings c.solved c.chosen)

  pub surface_report_mirror : (settings : Settings) (lent : Places)
      → MirrorReport (BySize settings) (surface_report_on n settings ps columns lent) (surface_report_on n settings qs columns lent)
  unfolding surface_report_on surface_report_refusal
  surface_report_mirror settings lent =
      rw (points_finite_mirror p)
      (settle_mirror (MirrorReport (BySize settings)) (surface_report_refusal n qs columns settings lent) (surface_past_mirror settings)
      (report_refused (BySize settings) (surface_report_refusal n qs columns settings lent)))
