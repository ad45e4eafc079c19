-- Laws of a report's choice.
use Rattle.std.specs.Prelude.{◌≡◌, true, List, ℕ, ◌≤◌, Float, Some}
use Rattle.basis.specs.Counts.{count_of}
use Rattle.basis.specs.declared.Basis.TheVariants.{Curve}
use Rattle.basis.specs.declared.Degree.{Degree}
use Rattle.statistics.specs.Degrees.{max_degree}
use Rattle.monomial.specs.Rows.{Row}
use Rattle.fit.specs.Solved.{is_solved}
use Rattle.settings.specs.declared.Settings.{Settings}
use Rattle.reporting.specs.ChosenLaws.{last_solved}
use Rattle.report.specs.Reports.{report_choice}

-- the chosen degree is at most the bound, and solved
pub chosen_solved : (n : ℕ) (settings : Settings) (rows : List Row) (sums : List Float) (d : Degree)
    → (report_choice n settings rows sums).chosen ≡ Some d
    → (d.0 ≤ max_degree settings.bound n) × (is_solved sums rows (count_of Curve d.0) ≡ true)
unfolding report_choice
chosen_solved n settings rows sums d h = last_solved Curve settings.criterion rows sums (max_degree settings.bound n) d h
