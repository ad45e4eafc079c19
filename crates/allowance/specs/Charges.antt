-- The calls that are charged to a group (document 02, E10): a report, a surface's report and a split, each with its group's number and the table. In place
-- of a limit each has its group's counter. Definitions only.
use Rattle.std.specs.Prelude.{◌≡◌, List, [], ℕ, length, take, Float}
use Rattle.basis.specs.Sizes.{sum_places}
use Rattle.samples.specs.declared.Sample.{Sample}
use Rattle.samples.specs.Columns.{samples_of, Columns, lengths}
use Rattle.monomial.specs.Rows.{rows_of, weighted_rows}
use Rattle.refusal.specs.Refusals.{settle}
use Rattle.lent.specs.Slices.{Contents}
use Rattle.settings.specs.declared.Settings.{Settings}
use Rattle.reporting.specs.declared.Places.{Places}
use Rattle.reporting.specs.Outputs.{LentOutputs, places_of}
use Rattle.reporting.specs.Reports.{ReportAnswer, ReportOut, refused_early, Does}
use Rattle.report.specs.Limited.{within_past}
use Rattle.surface.specs.Points.{Point, PointColumns, points_of, point_lengths, rows_of_points, surface_sums}
use Rattle.surface.specs.Limited.{surface_within_past}
use Rattle.split.specs.declared.Places.{Places as SplitPlaces}
use Rattle.split.specs.Search.{search_tests}
use Rattle.split.specs.Splits.{SplitAnswer, SplitOut, LentSplit, split_refused, split_past, taken_of, places_of as split_places_of, Does as SplitDoes}
use Rattle.allowance.specs.Table.{counter_of, taken_from}
use Rattle.allowance.specs.Refusals.{group_report_refusal, group_surface_refusal, group_split_refusal}

-- what a call does, and the table after it
pub record Charged (A : Type 0) : Type 0 where
  pub does : A
  pub table : List ℕ

-- Refusals 1 to 9, 17 among them, take nothing. Past them the call takes what it costs from its group's counter, also at 11 or 12; with too few left it gets
-- 16 and the counter stands: then it takes 0.
abbrev pub charged : {A : Type 0} → ℕ → List ℕ → ℕ → A → A → ℕ → Charged A
charged group table r early past taken = settle r (record { does = past; table = taken_from table group taken }) (record { does = early; table = table })

-- a report of a book
unfoldable pub group_report_on : ℕ → List ℕ → ℕ → Settings → List Sample → List Float → List ℕ → ℕ → Places → Charged ReportOut
group_report_on group table n settings samples sums columns len places =
    let r = group_report_refusal group (length table) n settings samples columns len places in
    let o = within_past n settings (counter_of table group) (rows_of samples) sums in
    charged group table r (refused_early r) o.does o.taken

-- a report of a surface
unfoldable pub group_surface_on : ℕ → List ℕ → ℕ → Settings → List Point → List ℕ → Places → Charged ReportOut
group_surface_on group table n settings points columns places =
    let r = group_surface_refusal group (length table) n settings points columns places in
    let o = surface_within_past n settings (counter_of table group) (rows_of_points points) (surface_sums points) in
    charged group table r (refused_early r) o.does o.taken

-- a split of a book
unfoldable pub group_split_on : ℕ → List ℕ → ℕ → Settings → List Sample → List ℕ → ℕ → SplitPlaces → Charged SplitOut
group_split_on group table n settings samples columns len places =
    let r = group_split_refusal group (length table) n settings samples columns len places in
    let rows = weighted_rows samples in
    let limit = counter_of table group in
    charged group table r (split_refused r []) (split_past n settings.bound settings.criterion limit rows)
    (taken_of limit (search_tests settings.bound settings.criterion rows))

-- ---- the promises, on what stands in memory: the answer, every memory that the call may write, and the table

pub record ReportCharged (o : Charged ReportOut) (r : ReportAnswer) (w : LentOutputs) (t : List ℕ) : Type 0 where
  pub does : Does o.does r w
  pub table : t ≡ o.table

abbrev pub GroupReportIs : ℕ → ℕ → Settings → Columns → List Float → ReportAnswer → LentOutputs → Contents ℕ → Type 0
GroupReportIs group n settings columns sums r w table =
    ReportCharged
    (group_report_on group table.found n settings (samples_of n columns) (take sum_places sums) (lengths columns) (length sums) (places_of w.found)) r w table.left

abbrev pub GroupSurfaceIs : ℕ → ℕ → Settings → PointColumns → ReportAnswer → LentOutputs → Contents ℕ → Type 0
GroupSurfaceIs group n settings columns r w table =
    ReportCharged (group_surface_on group table.found n settings (points_of n columns) (point_lengths columns) (places_of w.found)) r w table.left

pub record SplitCharged (o : Charged SplitOut) (r : SplitAnswer) (w : LentSplit) (t : List ℕ) : Type 0 where
  pub does : SplitDoes o.does r w
  pub table : t ≡ o.table

abbrev pub GroupSplitIs : ℕ → ℕ → Settings → Columns → List Float → SplitAnswer → LentSplit → Contents ℕ → Type 0
GroupSplitIs group n settings columns sums r w table =
    SplitCharged (group_split_on group table.found n settings (samples_of n columns) (lengths columns) (length sums) (split_places_of w)) r w table.left
