-- Document 01's "Refused, in checking order", for a report: refusals 1 to 9, over its settings, the count, the samples and the lengths of the lent
-- memory. Definitions only.
use Rattle.std.specs.Prelude.{List, [], ◌∷◌, ℕ}
use Rattle.basis.specs.Sizes.{max_terms, sum_places}
use Rattle.samples.specs.declared.Sample.{Sample}
use Rattle.refusal.specs.Refusals.{Test, by, first_of}
use Rattle.refusal.specs.Tests.{Needed, needed, too_short, no_samples}
use Rattle.settings.specs.declared.Settings.{Settings}
use Rattle.reporting.specs.declared.Places.{Places}
use Rattle.reporting.specs.Refusals.{settings_tests}

-- what 1 judges of a report: the sums, and all that it writes
abbrev pub report_needs : ℕ → ℕ → Places → List Needed
report_needs n sums p =
    needed sum_places sums ∷ needed n p.scratch ∷ needed max_terms p.coefficients ∷ needed max_terms p.errors ∷ needed max_terms p.pruned
    ∷ needed n p.lower ∷ needed n p.upper ∷ needed n p.outliers ∷ []

abbrev pub report_tests : ℕ → Settings → List Sample → List ℕ → ℕ → Places → List Test
report_tests n settings samples columns sums places =
    by (too_short n columns (report_needs n sums places)) 1 ∷ settings_tests n settings samples (no_samples n)

unfoldable pub report_refusal : ℕ → Settings → List Sample → List ℕ → ℕ → Places → ℕ
report_refusal n settings samples columns sums places = first_of (report_tests n settings samples columns sums places)
