-- What a report that 1 to 9 let through may count on. Definitions only.
use Rattle.std.specs.Prelude.{List, ℕ, ◌≤◌, ◌<◌}
use Rattle.basis.specs.Sizes.{highest_degree}
use Rattle.statistics.specs.Degrees.{max_degree}
use Rattle.refusal.specs.Rooms.{Room}
use Rattle.settings.specs.declared.Settings.{Settings}
use Rattle.reporting.specs.declared.Places.{Places}
use Rattle.report.specs.Refusals.{report_needs}

pub record ReportRoom (n : ℕ) (settings : Settings) (columns : List ℕ) (sums : ℕ) (places : Places) : Type 0 where
  pub room : Room n columns (report_needs n sums places)
  pub some : 0 < n
  pub most : max_degree settings.bound n ≤ highest_degree
