-- Laws of Reports.antt.
use Rattle.std.specs.Prelude.{◌≤◌, Ok, Err}
use Rattle.std.proofs.Common.{arith}
use Rattle.reporting.specs.Reports.{ReportAnswer}
use Rattle.season_report.specs.Reports.{passes}

-- a report counts once at most
pub passes_most : (a : ReportAnswer) → passes a ≤ 1
passes_most (Ok r) = omega arith
passes_most (Err k) = omega arith
