-- The choice from the tallies of all folds.
use Rattle.std.specs.Prelude.{Option}
use Rattle.std.proofs.Common.{◌≡◌, ℕ, ◌+◌, List, ap, ◌∙◌}
use Rattle.basis.specs.declared.Degree.{Degree}
use Rattle.basis.specs.Counts.{count_of}
use Rattle.basis.specs.declared.Basis.TheVariants.{Curve}
use Rattle.monomial.specs.Rows.{WeightedRow}
use Rattle.score.specs.declared.Criterion.{Criterion}
use Rattle.choice.specs.Choice.{chosen_of}
use Rattle.choice.specs.ChoiceLaws.{chosen_same}
use Rattle.folds.specs.declared.Tally.{Tally}
use Rattle.folds.specs.Folds.{degree_scored, solved_scores, mean_of, validated, validated_choice}
use Rattle.folds.specs.Tallies.{no_tally, mean_at, Tallied}

pub validated_is : (criterion : Criterion) (rows : List WeightedRow) (folds bound : ℕ) (u : List Tally) (r : Option Degree)
    → Tallied (degree_scored criterion rows folds) folds (bound + 1) u → r ≡ chosen_of (mean_at u) (bound + 1) → r ≡ validated_choice criterion rows folds bound
unfolding validated_choice validated solved_scores mean_at
validated_is criterion rows folds bound u r w e =
    e ∙ chosen_same (mean_at u) (λ d. validated criterion rows folds (count_of Curve d)) (bound + 1) (λ d h. ap (λ (t : Tally). mean_of t.total t.count) (w.tally d no_tally h))
