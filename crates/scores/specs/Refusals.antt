-- Refusals 1 to 9 of the scores: a report's, but that 1 judges scratch, and the solved bytes and scores, 16 places each. Definitions only.
use Rattle.std.specs.Prelude.{List, [], ◌∷◌, ℕ}
use Rattle.basis.specs.Sizes.{max_terms, sum_places}
use Rattle.samples.specs.declared.Sample.{Sample}
use Rattle.refusal.specs.Refusals.{Test, by, first_of}
use Rattle.refusal.specs.Tests.{Needed, needed, too_short, no_samples}
use Rattle.settings.specs.declared.Settings.{Settings}
use Rattle.reporting.specs.Refusals.{settings_tests}

abbrev pub scores_needs : ℕ → ℕ → ℕ → ℕ → ℕ → List Needed
scores_needs n sums scratch solved scores = needed sum_places sums ∷ needed n scratch ∷ needed max_terms solved ∷ needed max_terms scores ∷ []

abbrev pub scores_tests : ℕ → Settings → List Sample → List ℕ → ℕ → ℕ → ℕ → ℕ → List Test
scores_tests n settings samples columns sums scratch solved scores =
    by (too_short n columns (scores_needs n sums scratch solved scores)) 1 ∷ settings_tests n settings samples (no_samples n)

unfoldable pub scores_refusal : ℕ → Settings → List Sample → List ℕ → ℕ → ℕ → ℕ → ℕ → ℕ
scores_refusal n settings samples columns sums scratch solved scores = first_of (scores_tests n settings samples columns sums scratch solved scores)
