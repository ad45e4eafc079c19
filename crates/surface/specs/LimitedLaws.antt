-- A surface's report within a limit that no report's pivot tests pass is the report.
use Rattle.std.specs.Prelude.{◌≡◌, refl, List, ℕ, zero, suc, ◌≤◌, ◌<◌, Float}
use Rattle.std.proofs.Common.{ap, arith}
use Rattle.surface.specs.RefusalLaws.{total_terms, surface_report_room}
use Rattle.basis.specs.declared.Basis.TheVariants.{Surface}
use Rattle.statistics.specs.Degrees.{max_degree}
use Rattle.monomial.specs.Rows.{Row}
use Rattle.fit.specs.Chosen.{choice_of}
use Rattle.refusal.specs.Refusals.{settle}
use Rattle.settings.specs.declared.Settings.{Settings}
use Rattle.reporting.specs.declared.Places.{Places}
use Rattle.reporting.specs.Limited.{Limited, limited_early}
use Rattle.reporting.specs.LimitedLaws.{tests_within, within_limit}
use Rattle.reporting.specs.Reports.{refused_early}
use Rattle.surface.specs.Points.{Point, rows_of_points, surface_sums}
use Rattle.surface.specs.Refusals.{highest_total, surface_report_refusal}
use Rattle.surface.specs.Surfaces.{last_tried, surface_choice, surface_report_past, surface_report_on}
use Rattle.surface.specs.TriedLaws.{last_within, surface_choice_is}
use Rattle.surface.specs.Limited.{surface_within_past, surface_within_on}

-- a report's pivot tests
pub surface_tests : (n : ℕ) (settings : Settings) (rows : List Row) (sums : List Float) → 0 < n → max_degree settings.bound n ≤ highest_total
    → (surface_choice n settings rows sums).tests ≤ 256
unfolding choice_of
surface_tests n settings rows sums h m =
    let b = max_degree settings.bound n in
    let l = last_tried n b in
    let k : l ≤ 4 = omega (arith, last_within n b h, m) in
    rw (surface_choice_is n settings rows sums h) (tests_within sums Surface l (omega arith) (omega (arith, total_terms l k)))

pub no_limit : (n : ℕ) (settings : Settings) (points : List Point) (columns : List ℕ) (places : Places)
    → (surface_within_on n settings 256 points columns places).does ≡ surface_report_on n settings points columns places
unfolding surface_within_on surface_within_past surface_report_on surface_report_past
no_limit n settings points columns places = go (surface_report_refusal n points columns settings places) refl
  where
    go : (r : ℕ) → surface_report_refusal n points columns settings places ≡ r
        → (settle r (surface_within_past n settings 256 (rows_of_points points) (surface_sums points)) (limited_early r)).does
        ≡ settle r (surface_report_past n settings (rows_of_points points) (surface_sums points)) (refused_early r)
    go zero e =
        let w = surface_report_room n points columns settings places e in
        ap (λ (o : Limited). o.does)
        (within_limit Surface n settings 256 (rows_of_points points) (surface_sums points) (surface_choice n settings (rows_of_points points) (surface_sums points))
        (surface_tests n settings (rows_of_points points) (surface_sums points) w.1.0 w.1.1))
    go (suc r) e = refl
