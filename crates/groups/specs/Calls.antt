-- The calls of a course group, as calls of a list: those of its book, those of its surfaces, and those that cost. Definitions only.
use Rattle.std.specs.Prelude.{List, [], ℕ, ◌-◌, Float}
use Rattle.allowance.specs.Table.{TableAnswer}
use Rattle.statistics.specs.declared.Confidence.{Confidence}
use Rattle.statistics.specs.declared.Tolerance.{Tolerance}
use Rattle.samples.specs.declared.Sample.{Sample}
use Rattle.monomial.specs.Rows.{rows_of, weighted_rows}
use Rattle.refusal.specs.Refusals.{settle}
use Rattle.settings.specs.declared.Settings.{Settings}
use Rattle.reporting.specs.declared.Places.{Places}
use Rattle.reporting.specs.Reports.{refused_early}
use Rattle.report.specs.Reports.{report_choice}
use Rattle.report.specs.Limited.{within_past}
use Rattle.surface.specs.Points.{PointColumns, points_of, point_lengths, rows_of_points, surface_sums}
use Rattle.surface.specs.Surfaces.{surface_choice, surface_fit_on, surface_band_on, surface_report_on}
use Rattle.surface.specs.Limited.{surface_within_past}
use Rattle.split.specs.declared.Places.{Places as SplitPlaces}
use Rattle.split.specs.Search.{search_tests}
use Rattle.split.specs.Splits.{split_refused, split_past, taken_of}
use Rattle.ledger.specs.Ledger.{Call, Reply}
use Rattle.ledger.specs.ReadCalls.{ReadCall, Told, fit_reply, band_reply, report_reply, split_reply}
use Rattle.allowance.specs.Refusals.{group_report_refusal, group_surface_refusal, group_split_refusal}

-- A surface has no book: its samples come with the call, as columns and a count, then the lengths of the memory lent to it alone.
pub data SurfaceCall : Type 0 where
  surface_fits : ℕ → ℕ → PointColumns → ℕ → ℕ → SurfaceCall
  surface_reports : ℕ → Settings → PointColumns → Places → SurfaceCall
  surface_bands : ℕ → Float → Float → ℕ → Confidence → Tolerance → PointColumns → ℕ → SurfaceCall

unfoldable pub surface_on : SurfaceCall → Told
surface_on (surface_fits n degree columns scratch coefficients) = fit_reply (surface_fit_on n degree (points_of n columns) (point_lengths columns) scratch coefficients)
surface_on (surface_reports n settings columns places) = report_reply (surface_report_on n settings (points_of n columns) (point_lengths columns) places)
surface_on (surface_bands n x z degree confidence tolerance columns scratch) =
    band_reply (surface_band_on n x z degree confidence tolerance (points_of n columns) (point_lengths columns) scratch)

-- a call that costs: a report, a surface's report or a split
pub data CostCall : Type 0 where
  group_reports : Settings → Places → CostCall
  group_surfaces : ℕ → Settings → PointColumns → Places → CostCall
  group_splits : Settings → SplitPlaces → CostCall

-- a call of a group: of its book without its number, of a surface without its number, or one that costs
pub data GroupCall : Type 0 where
  books : Call ReadCall → GroupCall
  surfaces : SurfaceCall → GroupCall
  costs : CostCall → GroupCall

-- what comes back: of start and renew, or of a call
pub data GroupReply : Type 0 where
  tabled : TableAnswer → GroupReply
  replied : Reply Told → GroupReply

-- ---- a call that costs, over the counter alone: group is the group's number, table the length of the table

-- its number from 1 to 9, 17 among them; 0 is none
unfoldable pub cost_refusal : ℕ → ℕ → CostCall → ℕ → List Sample → List ℕ → ℕ → ℕ
cost_refusal group table (group_reports settings places) n samples columns len = group_report_refusal group table n settings samples columns len places
cost_refusal group table (group_surfaces count settings points places) n samples columns len =
    group_surface_refusal group table count settings (points_of count points) (point_lengths points) places
cost_refusal group table (group_splits settings places) n samples columns len = group_split_refusal group table n settings samples columns len places

-- what it costs: its pivot tests, counted as in E8
unfoldable pub cost_of : CostCall → ℕ → List Sample → List Float → ℕ
cost_of (group_reports settings places) n samples sums = (report_choice n settings (rows_of samples) sums).tests
cost_of (group_surfaces count settings points places) n samples sums =
    (surface_choice count settings (rows_of_points (points_of count points)) (surface_sums (points_of count points))).tests
cost_of (group_splits settings places) n samples sums = search_tests settings.bound settings.criterion (weighted_rows samples)

-- what it answers and writes, where its number from 1 to 9 is r and so many pivot tests are left
unfoldable pub cost_reply : CostCall → ℕ → ℕ → ℕ → List Sample → List Float → Told
cost_reply (group_reports settings places) r counter n samples sums =
    report_reply (settle r (within_past n settings counter (rows_of samples) sums).does (refused_early r))
cost_reply (group_surfaces count settings points places) r counter n samples sums =
    report_reply
    (settle r (surface_within_past count settings counter (rows_of_points (points_of count points)) (surface_sums (points_of count points))).does (refused_early r))
cost_reply (group_splits settings places) r counter n samples sums =
    split_reply (settle r (split_past n settings.bound settings.criterion counter (weighted_rows samples)) (split_refused r []))

-- what it leaves of the counter: refusals 1 to 9 take nothing; past them it takes its cost, but with too few left it gets 16 and the counter stands
unfoldable pub left_of : ℕ → ℕ → ℕ → ℕ
left_of r counter cost = settle r (counter - taken_of counter cost) counter
