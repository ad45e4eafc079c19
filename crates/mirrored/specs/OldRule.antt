-- What document 01's rule of pruning does under the mirror, by the smallest example: the two samples (0, 0) and (1, 2), and a report of degree 0. The
-- fitted value is the mean, 1, with error 1, so that t is 1, and the t score at one degree of freedom is 12.706. Measured from the base the
-- coefficient is 1, above 2⁻⁵², and is pruned. Measured from the surface it is −1, which is not above 2⁻⁵², and stays: the reports differ in the
-- number of pruned terms. With the rule by size they do not. One sample would not do: its error is 0 and its t infinite. Definitions only.
-- `OldRuleLaws.antt` computes them.
use Rattle.std.specs.Prelude.{◌≡◌, List, [], ◌∷◌, map, ℕ, Ok}
use Rattle.reporting.specs.Reports.{ReportAnswer}
use Rattle.value.specs.Numbers.{num, one_f}
use Rattle.statistics.specs.declared.Confidence.TheVariants.{P95}
use Rattle.statistics.specs.declared.DegreeBound.TheVariants.{Custom}
use Rattle.statistics.specs.declared.Tolerance.TheVariants as tolerance
use Rattle.samples.specs.declared.Sample.{Sample}
use Rattle.monomial.specs.Rows.{weighted_rows}
use Rattle.monomial.specs.Sums.{sums_of}
use Rattle.score.specs.declared.Criterion.TheVariants.{Aic}
use Rattle.choice.specs.Choice.{degree}
use Rattle.covariance.specs.declared.PruningRule.{PruningRule}
use Rattle.covariance.specs.declared.PruningRule.TheVariants as rules
use Rattle.settings.specs.declared.Settings.{Settings}
use Rattle.report.specs.Reports.{report_on}
use Rattle.mirrored.specs.Flipped.{flip_sample}

-- measured from the base, and from the surface
abbrev pub from_base : List Sample
from_base = record { x = num 0; y = num 0; w = one_f } ∷ record { x = num 1; y = num 2; w = one_f } ∷ []

abbrev pub from_surface : List Sample
from_surface = map flip_sample from_base

abbrev pub pruned_by : PruningRule → Settings
pruned_by rule = record { bound = Custom (degree 0); criterion = Aic; confidence = P95; tolerance = tolerance.None; pruning = rule }

-- a report of two samples, with memory lent for them
abbrev pub reported : PruningRule → List Sample → ReportAnswer
reported rule samples =
    (report_on 2 (pruned_by rule) samples (sums_of (weighted_rows samples)) (2 ∷ 2 ∷ 2 ∷ []) 272
    (record { scratch = 2; coefficients = 16; errors = 16; pruned = 16; lower = 2; upper = 2; outliers = 2 })).answer

-- degree 0, one solved degree, no outlier, and one pruned term or none
abbrev pub with_pruned : ℕ → ReportAnswer
with_pruned n = Ok (record { degree = degree 0; solved = 1; outliers = 0; pruned = n })

pub record OldRule : Type 0 where
  pub base : reported rules.Positive from_base ≡ with_pruned 1
  pub surface : reported rules.Positive from_surface ≡ with_pruned 0
  pub base_by_size : reported rules.Size from_base ≡ with_pruned 1
  pub surface_by_size : reported rules.Size from_surface ≡ with_pruned 1
