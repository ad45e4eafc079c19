-- A report within a limit that no report's pivot tests pass is the report.
use Rattle.std.specs.Prelude.{◌≡◌, refl, List, ℕ, zero, suc, ◌≤◌, Float}
use Rattle.std.proofs.Common.{ap, arith}
use Rattle.basis.specs.CountLaws.{curve_count}
use Rattle.basis.specs.declared.Basis.TheVariants.{Curve}
use Rattle.statistics.specs.Degrees.{max_degree}
use Rattle.samples.specs.declared.Sample.{Sample}
use Rattle.monomial.specs.Rows.{Row, rows_of}
use Rattle.fit.specs.Chosen.{choice_of}
use Rattle.refusal.specs.Refusals.{settle}
use Rattle.settings.specs.declared.Settings.{Settings}
use Rattle.reporting.specs.declared.Places.{Places}
use Rattle.reporting.specs.Limited.{Limited, limited_early}
use Rattle.reporting.specs.LimitedLaws.{tests_within, within_limit}
use Rattle.reporting.specs.Reports.{refused_early}
use Rattle.report.specs.Refusals.{report_refusal}
use Rattle.report.specs.RefusalLaws.{report_room}
use Rattle.report.specs.Reports.{report_choice, report_past, report_on}
use Rattle.report.specs.Limited.{within_past, within_on}

-- a report's pivot tests
pub report_tests_lem : (n : ℕ) (settings : Settings) (rows : List Row) (sums : List Float) → max_degree settings.bound n ≤ 15
    → (report_choice n settings rows sums).tests ≤ 256
unfolding report_choice choice_of
report_tests_lem n settings rows sums h =
    let b = max_degree settings.bound n in
    tests_within sums Curve b h (omega (arith, h, curve_count b))

pub no_limit : (n : ℕ) (settings : Settings) (samples : List Sample) (sums : List Float) (columns : List ℕ) (length : ℕ) (places : Places)
    → (within_on n settings 256 samples sums columns length places).does ≡ report_on n settings samples sums columns length places
unfolding within_on within_past report_on report_past
no_limit n settings samples sums columns length places = go (report_refusal n settings samples columns length places) refl
  where
    go : (r : ℕ) → report_refusal n settings samples columns length places ≡ r
        → (settle r (within_past n settings 256 (rows_of samples) sums) (limited_early r)).does ≡ settle r (report_past n settings (rows_of samples) sums) (refused_early r)
    go zero e =
        let w = report_room n settings samples columns length places e in
        ap (λ (o : Limited). o.does)
        (within_limit Curve n settings 256 (rows_of samples) sums (report_choice n settings (rows_of samples) sums) (report_tests_lem n settings (rows_of samples) sums w.most))
    go (suc r) e = refl
