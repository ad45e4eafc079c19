-- A report of a book within a limit of pivot tests (document 02, E10). Definitions only.
use Rattle.std.specs.Prelude.{List, ℕ, length, take, Float}
use Rattle.basis.specs.Sizes.{sum_places}
use Rattle.basis.specs.declared.Basis.TheVariants.{Curve}
use Rattle.samples.specs.declared.Sample.{Sample}
use Rattle.samples.specs.Columns.{samples_of, Columns, lengths}
use Rattle.monomial.specs.Rows.{Row, rows_of}
use Rattle.refusal.specs.Refusals.{settle}
use Rattle.settings.specs.declared.Settings.{Settings}
use Rattle.reporting.specs.declared.Counted.{Counted}
use Rattle.reporting.specs.declared.Places.{Places}
use Rattle.reporting.specs.Limited.{Limited, limited_of, limited_early, DoesWithin}
use Rattle.reporting.specs.Outputs.{LentOutputs, places_of}
use Rattle.report.specs.Refusals.{report_refusal}
use Rattle.report.specs.Reports.{report_choice}

-- past refusals 1 to 9
unfoldable pub within_past : ℕ → Settings → ℕ → List Row → List Float → Limited
within_past n settings limit rows sums = limited_of Curve n settings limit rows sums (report_choice n settings rows sums)

-- a report of a book of n samples with these sums; columns, sums and the memory that is written have these lengths
unfoldable pub within_on : ℕ → Settings → ℕ → List Sample → List Float → List ℕ → ℕ → Places → Limited
within_on n settings limit samples sums columns length places =
    let r = report_refusal n settings samples columns length places in
    settle r (within_past n settings limit (rows_of samples) sums) (limited_early r)

-- the same on what stands in memory: what the call does
abbrev pub within_out : ℕ → Settings → ℕ → Columns → List Float → Places → Limited
within_out n settings limit columns sums places =
    within_on n settings limit (samples_of n columns) (take sum_places sums) (lengths columns) (length sums) places

-- the promise: a report of these columns and sums
abbrev pub WithinIs : ℕ → Settings → ℕ → Columns → List Float → Counted → LentOutputs → Type 0
WithinIs n settings limit columns sums r w = DoesWithin (within_out n settings limit columns sums (places_of w.found)) r w
