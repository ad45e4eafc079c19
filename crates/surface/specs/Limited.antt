-- A surface's report within a limit of pivot tests (document 02, E10). Definitions only.
use Rattle.std.specs.Prelude.{List, ℕ, Float}
use Rattle.basis.specs.declared.Basis.TheVariants.{Surface}
use Rattle.monomial.specs.Rows.{Row}
use Rattle.refusal.specs.Refusals.{settle}
use Rattle.settings.specs.declared.Settings.{Settings}
use Rattle.reporting.specs.declared.Counted.{Counted}
use Rattle.reporting.specs.declared.Places.{Places}
use Rattle.reporting.specs.Limited.{Limited, limited_of, limited_early, DoesWithin}
use Rattle.reporting.specs.Outputs.{LentOutputs, places_of}
use Rattle.surface.specs.Points.{Point, PointColumns, point_lengths, points_of, rows_of_points, surface_sums}
use Rattle.surface.specs.Refusals.{surface_report_refusal}
use Rattle.surface.specs.Surfaces.{surface_choice}

-- past refusals 1 to 9
unfoldable pub surface_within_past : ℕ → Settings → ℕ → List Row → List Float → Limited
surface_within_past n settings limit rows sums = limited_of Surface n settings limit rows sums (surface_choice n settings rows sums)

unfoldable pub surface_within_on : ℕ → Settings → ℕ → List Point → List ℕ → Places → Limited
surface_within_on n settings limit points columns places =
    let r = surface_report_refusal n points columns settings places in
    settle r (surface_within_past n settings limit (rows_of_points points) (surface_sums points)) (limited_early r)

-- the same on what stands in memory: what the call does
abbrev pub surface_within_out : ℕ → Settings → ℕ → PointColumns → Places → Limited
surface_within_out n settings limit columns places = surface_within_on n settings limit (points_of n columns) (point_lengths columns) places

-- the promise: a report of these columns
abbrev pub SurfaceWithinIs : ℕ → Settings → ℕ → PointColumns → Counted → LentOutputs → Type 0
SurfaceWithinIs n settings limit columns r w = DoesWithin (surface_within_out n settings limit columns (places_of w.found)) r w
