-- Refusals 1 to 9 of the losses: a report's, but that 1 judges scratch and the losses, one place a sample. Definitions only.
use Rattle.std.specs.Prelude.{List, [], ◌∷◌, ℕ}
use Rattle.basis.specs.Sizes.{sum_places}
use Rattle.samples.specs.declared.Sample.{Sample}
use Rattle.refusal.specs.Refusals.{Test, by, first_of}
use Rattle.refusal.specs.Tests.{Needed, needed, too_short, no_samples}
use Rattle.settings.specs.declared.Settings.{Settings}
use Rattle.reporting.specs.Refusals.{settings_tests}

abbrev pub loss_needs : ℕ → ℕ → ℕ → ℕ → List Needed
loss_needs n sums scratch losses = needed sum_places sums ∷ needed n scratch ∷ needed n losses ∷ []

abbrev pub loss_tests : ℕ → Settings → List Sample → List ℕ → ℕ → ℕ → ℕ → List Test
loss_tests n settings samples columns sums scratch losses =
    by (too_short n columns (loss_needs n sums scratch losses)) 1 ∷ settings_tests n settings samples (no_samples n)

unfoldable pub loss_refusal : ℕ → Settings → List Sample → List ℕ → ℕ → ℕ → ℕ → ℕ
loss_refusal n settings samples columns sums scratch losses = first_of (loss_tests n settings samples columns sums scratch losses)
