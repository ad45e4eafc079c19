-- What refuses every call that chooses a degree by a report's settings, past 1. Definitions only.
use Rattle.std.specs.Prelude.{Bool, not, ◌&&◌, List, [], ◌∷◌, ℕ}
use Rattle.samples.specs.declared.Sample.{Sample}
use Rattle.refusal.specs.Refusals.{Test, by}
use Rattle.refusal.specs.Tests.{all_finite, score_finite, tolerance_finite, bound_too_high}
use Rattle.settings.specs.declared.Settings.{Settings}

-- few: it has too few samples
abbrev pub settings_tests : ℕ → Settings → List Sample → Bool → List Test
settings_tests n settings samples few =
    by (not (score_finite settings.confidence && tolerance_finite settings.tolerance && all_finite samples)) 4 ∷ by few 7
    ∷ by (bound_too_high settings.bound n) 8 ∷ []
