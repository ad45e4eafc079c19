-- The numbers by which records and the C interface name the cases of each enum. The last case takes every other number, so that no call gains a refusal.
-- Definitions only.
use Rattle.std.specs.Prelude.{cond, List, ℕ, eqb, get_or, Float}
use Rattle.value.specs.Numbers.{zero_f}
use Rattle.statistics.specs.declared.DegreeBound.{DegreeBound}
use Rattle.statistics.specs.declared.DegreeBound.TheVariants as bounds
use Rattle.statistics.specs.declared.Confidence.{Confidence}
use Rattle.statistics.specs.declared.Confidence.TheVariants as confidences
use Rattle.statistics.specs.declared.Tolerance.{Tolerance}
use Rattle.statistics.specs.declared.Tolerance.TheVariants as tolerances
use Rattle.score.specs.declared.Criterion.{Criterion}
use Rattle.score.specs.declared.Criterion.TheVariants as criteria
use Rattle.covariance.specs.declared.PruningRule.{PruningRule}
use Rattle.covariance.specs.declared.PruningRule.TheVariants as rules
use Rattle.settings.specs.declared.Settings.{Settings}

-- how a degree is bounded; a custom bound is the degree
unfoldable pub bound_of : ℕ → ℕ → DegreeBound
bound_of number degree =
    cond (eqb number 0) bounds.Conservative
    (cond (eqb number 1) bounds.Relaxed
    (cond (eqb number 2) bounds.Aggressive
    (bounds.Custom (record { 0 = degree }))))

unfoldable pub criterion_of : ℕ → Criterion
criterion_of number = cond (eqb number 0) criteria.Aic criteria.Bic

-- a custom confidence is the z score
unfoldable pub confidence_of : ℕ → Float → Confidence
confidence_of number score =
    cond (eqb number 0) confidences.P80
    (cond (eqb number 1) confidences.P90
    (cond (eqb number 2) confidences.P95
    (cond (eqb number 3) confidences.P98
    (cond (eqb number 4) confidences.P99
    (cond (eqb number 5) confidences.P999
    (confidences.Custom score))))))

-- every tolerance but none carries the value
unfoldable pub tolerance_of : ℕ → Float → Tolerance
tolerance_of number value =
    cond (eqb number 0) tolerances.None
    (cond (eqb number 1) (tolerances.Absolute value)
    (cond (eqb number 2) (tolerances.Variance value)
    (tolerances.Measurement value)))

-- polyfit's rule, or by size
unfoldable pub pruning_of : ℕ → PruningRule
pruning_of number = cond (eqb number 0) rules.Positive rules.Size

-- the settings of a report, from a number for each enum and the values that some cases carry
unfoldable pub settings_of : ℕ → ℕ → ℕ → ℕ → Float → ℕ → Float → ℕ → Settings
settings_of bound most criterion confidence score tolerance value pruning =
    record {
      bound = bound_of bound most;
      criterion = criterion_of criterion;
      confidence = confidence_of confidence score;
      tolerance = tolerance_of tolerance value;
      pruning = pruning_of pruning;
    }

-- the same from lists that grow with the settings. The words: bound, most, criterion, confidence, tolerance, pruning; the values: the score and the
-- tolerance's number. A place that is not lent counts as 0, and a further one is not read.
unfoldable pub settings_in : List ℕ → List Float → Settings
settings_in words values =
    settings_of (get_or words 0 0) (get_or words 1 0) (get_or words 2 0) (get_or words 3 0) (get_or values 0 zero_f) (get_or words 4 0) (get_or values 1 zero_f) (get_or words 5 0)
