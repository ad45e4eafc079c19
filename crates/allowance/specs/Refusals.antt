-- What refuses a call of a group before it is charged: the call's own tests, with the table judged by 1, and 17 directly after 1. Definitions only.
use Rattle.std.specs.Prelude.{Bool, ◌||◌, List, [], ◌∷◌, ℕ, ltb}
use Rattle.samples.specs.declared.Sample.{Sample}
use Rattle.refusal.specs.Refusals.{Test, by, first_of}
use Rattle.settings.specs.declared.Settings.{Settings}
use Rattle.reporting.specs.declared.Places.{Places}
use Rattle.report.specs.Refusals.{report_tests}
use Rattle.surface.specs.Points.{Point}
use Rattle.surface.specs.Refusals.{surface_report_tests}
use Rattle.split.specs.declared.Places.{Places as SplitPlaces}
use Rattle.split.specs.Refusals.{split_tests}
use Rattle.allowance.specs.Table.{table_places}

-- 17: a group number above 7
abbrev pub no_group : ℕ → Bool
no_group group = ltb 7 group

-- the tests of a call, of which the first is 1
abbrev pub with_group : ℕ → ℕ → List Test → List Test
with_group group table [] = []
with_group group table (short ∷ later) = by (ltb table table_places || short.holds) 1 ∷ by (no_group group) 17 ∷ later

unfoldable pub group_report_refusal : ℕ → ℕ → ℕ → Settings → List Sample → List ℕ → ℕ → Places → ℕ
group_report_refusal group table n settings samples columns sums places = first_of (with_group group table (report_tests n settings samples columns sums places))

unfoldable pub group_surface_refusal : ℕ → ℕ → ℕ → Settings → List Point → List ℕ → Places → ℕ
group_surface_refusal group table n settings points columns places = first_of (with_group group table (surface_report_tests n points columns settings places))

unfoldable pub group_split_refusal : ℕ → ℕ → ℕ → Settings → List Sample → List ℕ → ℕ → SplitPlaces → ℕ
group_split_refusal group table n settings samples columns sums places = first_of (with_group group table (split_tests n settings samples columns sums places))
