-- Document 01's report: what it answers and writes, from samples, sums and lengths. Definitions only.
use Rattle.std.specs.Prelude.{List, ℕ, length, take, Float}
use Rattle.basis.specs.Sizes.{sum_places}
use Rattle.basis.specs.declared.Basis.TheVariants.{Curve}
use Rattle.statistics.specs.Degrees.{max_degree}
use Rattle.samples.specs.declared.Sample.{Sample}
use Rattle.samples.specs.Columns.{samples_of, Columns, lengths}
use Rattle.monomial.specs.Rows.{Row, rows_of}
use Rattle.fit.specs.Chosen.{choice_of, counts_of}
use Rattle.fit.specs.declared.Choice.{Choice}
use Rattle.refusal.specs.Refusals.{settle}
use Rattle.settings.specs.declared.Settings.{Settings}
use Rattle.reporting.specs.declared.Places.{Places}
use Rattle.reporting.specs.Outputs.{LentOutputs, places_of}
use Rattle.reporting.specs.Reports.{ReportAnswer, ReportOut, refused_early, report_of, Does}
use Rattle.report.specs.Refusals.{report_refusal}

-- A report's bound is `max_degree` for its setting and n, and its degrees run from 0 to the bound.
unfoldable pub report_choice : ℕ → Settings → List Row → List Float → Choice
report_choice n settings rows sums = choice_of settings.criterion sums rows (counts_of Curve (max_degree settings.bound n))

-- past refusals 1 to 9
unfoldable pub report_past : ℕ → Settings → List Row → List Float → ReportOut
report_past n settings rows sums =
    let choice = report_choice n settings rows sums in
    report_of Curve n settings rows sums choice.solved choice.chosen

-- a report of a book of n samples with these sums; columns, sums and the memory that is written have these lengths
unfoldable pub report_on : ℕ → Settings → List Sample → List Float → List ℕ → ℕ → Places → ReportOut
report_on n settings samples sums columns length places =
    let r = report_refusal n settings samples columns length places in
    settle r (report_past n settings (rows_of samples) sums) (refused_early r)

-- the same on what stands in memory: what the call does
abbrev pub report_out : ℕ → Settings → Columns → List Float → Places → ReportOut
report_out n settings columns sums places =
    report_on n settings (samples_of n columns) (take sum_places sums) (lengths columns) (length sums) places

-- the promise: a report of these columns and sums
abbrev pub ReportIs : ℕ → Settings → Columns → List Float → ReportAnswer → LentOutputs → Type 0
ReportIs n settings columns sums r w = Does (report_out n settings columns sums (places_of w.found)) r w
