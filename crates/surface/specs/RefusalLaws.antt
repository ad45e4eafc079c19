-- What a surface's calls may refuse by of 1 to 9, in the checking order, and what they may count on past them.
use Rattle.std.specs.Prelude.{◌≡◌, true, false, ◌&&◌, ℕ, ◌≤◌, ◌<◌, ltb, Float}
use Rattle.std.proofs.Math.Path.{refl}
use Rattle.std.proofs.Common.{ap, ◌∙◌, arith}
use mathlib.Core.List.{List, [], ◌∷◌, Memᴰ}
use borrow.Author.Tests.{ltb-false, eqb-false}
use Rattle.loops.specs.Cases.{or_false}
use Rattle.loops.specs.FoldLaws.{fold_map}
use Rattle.loops.specs.PlaceLaws.{map_table}
use Rattle.basis.specs.Counts.{count_of}
use Rattle.basis.specs.CountLaws.{count_mono}
use Rattle.basis.specs.declared.Basis.TheVariants.{Surface}
use Rattle.statistics.specs.Degrees.{max_degree}
use Rattle.statistics.specs.declared.Confidence.{Confidence}
use Rattle.statistics.specs.declared.Tolerance.{Tolerance}
use Rattle.samples.specs.declared.Sample.{Sample}
use Rattle.samples.specs.Columns.{columns_of, samples_of}
use Rattle.refusal.specs.Refusals.{numbers_of, InOrder, those, is_among}
use Rattle.refusal.specs.Laws.{numbered, first_none}
use Rattle.refusal.specs.Rooms.{Room}
use Rattle.refusal.specs.RoomLaws.{room}
use Rattle.refusal.specs.Tests.{sample_finite, all_finite}
use Rattle.settings.specs.declared.Settings.{Settings}
use Rattle.reporting.specs.declared.Places.{Places}
use Rattle.surface.specs.Points.{Point, point_columns, point_at, points_of}
use Rattle.surface.specs.Refusals.{highest_total, surface_fit_needs, surface_report_needs, surface_band_needs, points_finite, total_too_high, surface_fit_tests, surface_report_tests, surface_band_tests, surface_fit_refusal, surface_report_refusal, surface_band_refusal}

-- a total degree of at most 4 has at most 15 terms
fifteen : count_of Surface 4 ≡ 15
unfolding count_of
fifteen = refl

pub total_terms : (d : ℕ) → d ≤ highest_total → count_of Surface d ≤ 15
total_terms d h = omega (arith, count_mono Surface d 4 h, fifteen)

-- a sample's three values are finite: as a weighted sample's are
pub points_finite_lem : (n : ℕ) (xs zs ys : List Float) → all_finite (samples_of n (columns_of xs zs ys)) ≡ points_finite (points_of n (point_columns xs zs ys))
unfolding samples_of points_of
points_finite_lem n xs zs ys =
    let three : Point → Sample = λ p. record { x = p.x; y = p.z; w = p.y } in
    ap all_finite (map_table three (point_at (point_columns xs zs ys)) n) ∙ fold_map (λ b p. b && sample_finite p) three true _

module _ (n : ℕ) (points : List Point) (columns : List ℕ) where
  -- ---- the numbers that they may refuse by

  pub surface_fit_numbers : (degree scratch coefficients : ℕ)
      → Memᴰ (surface_fit_refusal n points columns degree scratch coefficients) (0 ∷ 1 ∷ 4 ∷ 7 ∷ 8 ∷ [])
  unfolding surface_fit_refusal
  surface_fit_numbers degree scratch coefficients = numbered _

  pub surface_report_numbers : (settings : Settings) (places : Places)
      → Memᴰ (surface_report_refusal n points columns settings places) (0 ∷ 1 ∷ 4 ∷ 7 ∷ 8 ∷ [])
  unfolding surface_report_refusal
  surface_report_numbers settings places = numbered _

  pub surface_band_numbers : (x z : Float) (degree : ℕ) (confidence : Confidence) (tolerance : Tolerance) (scratch : ℕ)
      → Memᴰ (surface_band_refusal n points columns x z degree confidence tolerance scratch) (0 ∷ 1 ∷ 4 ∷ 7 ∷ 8 ∷ 9 ∷ [])
  unfolding surface_band_refusal
  surface_band_numbers x z degree confidence tolerance scratch = numbered _

  -- ---- each call's tests stand in the checking order

  pub surface_in_order : (degree scratch coefficients : ℕ) (settings : Settings) (places : Places) (x z : Float) (confidence : Confidence) (tolerance : Tolerance)
      → InOrder (numbers_of (surface_fit_tests n points columns degree scratch coefficients))
      × InOrder (numbers_of (surface_report_tests n points columns settings places))
      × InOrder (numbers_of (surface_band_tests n points columns x z degree confidence tolerance scratch))
  unfolding those is_among
  surface_in_order degree scratch coefficients settings places x z confidence tolerance = (refl, refl, refl)

  -- ---- what each may count on

  asked_within : (degree : ℕ) → total_too_high n degree ≡ false → (degree ≤ highest_total) × (count_of Surface degree ≤ n)
  asked_within degree h =
      let q = or_false (ltb highest_total degree) (ltb n (count_of Surface degree)) h in
      (ltb-false _ _ q.0, ltb-false _ _ q.1)

  pub surface_fit_room : (degree scratch coefficients : ℕ) → surface_fit_refusal n points columns degree scratch coefficients ≡ 0
      → Room n columns (surface_fit_needs n scratch coefficients) × ((degree ≤ highest_total) × (count_of Surface degree ≤ n))
  unfolding surface_fit_refusal
  surface_fit_room degree scratch coefficients e =
      let p1 = first_none _ 0 _ e in
      let p4 = first_none _ 3 _ p1.1 in
      let p7 = first_none _ 6 _ p4.1 in
      let p8 = first_none _ 7 _ p7.1 in
      (room n columns _ p1.0, asked_within degree p8.0)

  pub surface_report_room : (settings : Settings) (places : Places) → surface_report_refusal n points columns settings places ≡ 0
      → Room n columns (surface_report_needs n places) × ((0 < n) × (max_degree settings.bound n ≤ highest_total))
  unfolding surface_report_refusal
  surface_report_room settings places e =
      let p1 = first_none _ 0 _ e in
      let p4 = first_none _ 3 _ p1.1 in
      let p7 = first_none _ 6 _ p4.1 in
      let p8 = first_none _ 7 _ p7.1 in
      let some : n ≡ 0 → ⊥ = eqb-false n 0 p7.0 in
      (room n columns _ p1.0, (omega (arith, some), ltb-false _ _ p8.0))

  pub surface_band_room : (x z : Float) (degree : ℕ) (confidence : Confidence) (tolerance : Tolerance) (scratch : ℕ)
      → surface_band_refusal n points columns x z degree confidence tolerance scratch ≡ 0
      → Room n columns (surface_band_needs n scratch) × ((degree ≤ highest_total) × (count_of Surface degree ≤ n))
  unfolding surface_band_refusal
  surface_band_room x z degree confidence tolerance scratch e =
      let p1 = first_none _ 0 _ e in
      let p4 = first_none _ 3 _ p1.1 in
      let p7 = first_none _ 6 _ p4.1 in
      let p8 = first_none _ 7 _ p7.1 in
      (room n columns _ p1.0, asked_within degree p8.0)
