-- What a surface's calls answer fits its fields, as a curve's does, and reading it gives the answer back.
use Rattle.std.specs.Prelude.{refl, ℕ, List, length, Float}
use Rattle.std.proofs.Common.{arith}
use Rattle.std.proofs.Math.ListN.{length-map}
use Rattle.basis.specs.Counts.{count_of}
use Rattle.basis.specs.declared.Basis.TheVariants.{Surface}
use Rattle.statistics.specs.Degrees.{max_degree}
use Rattle.statistics.specs.declared.Confidence.{Confidence}
use Rattle.statistics.specs.declared.Tolerance.{Tolerance}
use Rattle.settings.specs.declared.Settings.{Settings}
use Rattle.measure.specs.Measures.{measure_refusal}
use Rattle.measure.specs.Bands.{band_past}
use Rattle.reporting.specs.declared.Places.{Places}
use Rattle.surface.specs.Points.{PointColumns, point_lengths, points_of, row_of_point, rows_of_points, surface_sums}
use Rattle.surface.specs.PointLaws.{length_points}
use Rattle.surface.specs.Refusals.{surface_fit_refusal, surface_band_refusal, surface_report_refusal}
use Rattle.surface.specs.RefusalLaws.{surface_fit_room, surface_report_room}
use Rattle.surface.specs.Surfaces.{last_tried, surface_fit_on, surface_fit_out, surface_band_on, surface_band_out, surface_report_past, surface_report_on, surface_report_out}
use Rattle.surface.specs.TriedLaws.{last_within, surface_choice_is}
use Rattle.capi.specs.Packed.{packed_fit, packed_band, packed_report, band_into, FitFits, BandFits, ReportFits}
use Rattle.capi.specs.Fitting.{past_fits, fit_settles, band_settles, out_settles, into_fits, chosen_fits, report_settles}
use Rattle.capi.specs.Reading.{FitRead, BandRead, ReportRead}
use Rattle.capi.specs.ReadingLaws.{fit_read, band_read, report_read}

module _ (n : ℕ) (columns : PointColumns) where
  surface_fit_fits : (degree : ℕ) (scratch coefficients : List Float) → FitFits (surface_fit_out n degree columns scratch coefficients).answer
  unfolding surface_fit_on
  surface_fit_fits degree scratch coefficients =
      fit_settles (surface_fit_refusal n (points_of n columns) (point_lengths columns) degree (length scratch) (length coefficients)) _
      (λ e.
      past_fits Surface n degree _ _ (omega (arith, (surface_fit_room n (points_of n columns) (point_lengths columns) degree (length scratch) (length coefficients) e).1.0)))

  surface_band_fits : (x z : Float) (degree : ℕ) (confidence : Confidence) (tolerance : Tolerance) (scratch : List Float) (places : ℕ)
      → BandFits (band_into places (surface_band_out n x z degree confidence tolerance columns scratch)).answer
  unfolding surface_band_on band_past
  surface_band_fits x z degree confidence tolerance scratch places =
      let points = points_of n columns in
      into_fits places _
      (out_settles (surface_band_refusal n points (point_lengths columns) x z degree confidence tolerance (length scratch)) _
      (band_settles (measure_refusal (surface_sums points) (rows_of_points points) (count_of Surface degree)) _))

  pub surface_report_fits : (settings : Settings) (places : Places) → ReportFits (surface_report_out n settings columns places).answer
  unfolding surface_report_on surface_report_past
  surface_report_fits settings places =
      let points = points_of n columns in
      let bound = max_degree settings.bound n in
      report_settles (surface_report_refusal n points (point_lengths columns) settings places) _
      (λ e.
      let w = surface_report_room n points (point_lengths columns) settings places e in
      rw (surface_choice_is n settings (rows_of_points points) (surface_sums points) w.1.0)
      (chosen_fits Surface n settings (rows_of_points points) (surface_sums points) (last_tried n bound)
      (omega (arith, w.0.most, length_points n columns, length-map points row_of_point)) (omega (arith, w.1.1, last_within n bound w.1.0)) _ refl))

  -- ---- so the packed answer is read as the answer

  pub surface_fit_back : (degree : ℕ) (scratch coefficients : List Float)
      → (let a = (surface_fit_out n degree columns scratch coefficients).answer in FitRead (packed_fit a) a)
  surface_fit_back degree scratch coefficients = fit_read _ (surface_fit_fits degree scratch coefficients)

  pub surface_band_back : (x z : Float) (degree : ℕ) (confidence : Confidence) (tolerance : Tolerance) (scratch : List Float) (places : ℕ)
      → (let a = (band_into places (surface_band_out n x z degree confidence tolerance columns scratch)).answer in BandRead (packed_band a) a)
  surface_band_back x z degree confidence tolerance scratch places = band_read _ (surface_band_fits x z degree confidence tolerance scratch places)

  pub surface_report_back : (settings : Settings) (places : Places) → (let a = (surface_report_out n settings columns places).answer in ReportRead (packed_report a) a)
  surface_report_back settings places = report_read _ (surface_report_fits settings places)
