-- The validation of rows alike but for the sign of y: what every fold says of every degree, and the choice by the mean over the folds, are equal.
use Rattle.std.specs.Prelude.{◌≡◌, List, length, Float, Option}
use Rattle.std.proofs.Math.Path.{ap, fun_ext}
use Prim.Native.Nat.{ℕ, ◌+◌, ◌-◌}
use Rattle.loops.specs.Places.{table}
use Rattle.value.specs.Total.{total_f}
use Rattle.basis.specs.Counts.{count_of}
use Rattle.basis.specs.declared.Basis.TheVariants.{Curve}
use Rattle.monomial.specs.Rows.{WeightedRow}
use Rattle.score.specs.declared.Criterion.{Criterion}
use Rattle.choice.specs.Choice.{chosen_of}
use Rattle.folds.specs.Folds.{start_of, end_of, own_of, others_of, fold_scored, solved_of, solved_scores, mean_of, validated, validated_choice}
use Rattle.mirror.specs.PairLaws.{pairs_length, pairs_append, pairs_take, pairs_drop}
use Rattle.mirror.specs.Mirror.{MirrorWeights}
use Rattle.mirror.specs.SumLaws.{sums_mirror, rows_in_mirror}
use Rattle.mirror.specs.FitLaws.{scored_mirror}

module _ (criterion : Criterion) {rs qs : List WeightedRow} (p : MirrorWeights rs qs) (folds : ℕ) where
  pub fold_mirror : (k f : ℕ) → fold_scored criterion rs folds k f ≡ fold_scored criterion qs folds k f
  unfolding fold_scored own_of others_of
  fold_mirror k f =
      let a = start_of (length qs) folds f in
      let b = end_of (length qs) folds f in
      rw (pairs_length p)
      (scored_mirror criterion (sums_mirror (pairs_append (pairs_take a p) (pairs_drop b p))) (rows_in_mirror p) (pairs_take (b - a) (pairs_drop a (rows_in_mirror p))) k)

  pub validated_mirror : (k : ℕ) → validated criterion rs folds k ≡ validated criterion qs folds k
  unfolding validated solved_scores
  validated_mirror k =
      ap (λ (f : ℕ → Option Float). let l = solved_of (table f folds) in mean_of (total_f l) (length l)) (fun_ext (fold_mirror k))

  pub validation_mirror : (bound : ℕ) → validated_choice criterion rs folds bound ≡ validated_choice criterion qs folds bound
  unfolding validated_choice
  validation_mirror bound = ap (λ (S : ℕ → Option Float). chosen_of S (bound + 1)) (fun_ext (λ d. validated_mirror (count_of Curve d)))
