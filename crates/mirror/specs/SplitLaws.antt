-- The split of rows alike but for the sign of y: every side's choice, the best break with its total and degrees, and the pivot tests of the search
-- are equal, and both fits are opposite.
use Rattle.std.specs.Prelude.{◌≡◌, List, length}
use Rattle.std.proofs.Common.{ap₂}
use Rattle.std.proofs.Math.Path.{fun_ext}
use Prim.Native.Nat.{ℕ, ◌+◌, ◌-◌}
use Rattle.loops.specs.Loop.{from}
use Rattle.basis.specs.Counts.{count_of}
use Rattle.basis.specs.declared.Basis.TheVariants.{Curve}
use Rattle.basis.specs.declared.Degree.{Degree}
use Rattle.statistics.specs.Degrees.{max_degree}
use Rattle.statistics.specs.declared.DegreeBound.{DegreeBound}
use Rattle.monomial.specs.Rows.{WeightedRow}
use Rattle.score.specs.declared.Criterion.{Criterion}
use Rattle.fit.specs.Chosen.{counts_of}
use Rattle.fit.specs.declared.Choice.{Choice}
use Rattle.split.specs.Search.{side_choice, side_fit, best_of, left_of, right_of, best_break, break_tests, search_tests}
use Rattle.mirror.specs.PairLaws.{pairs_length, pairs_take, pairs_drop}
use Rattle.mirror.specs.Mirror.{MirrorWeights, Opposites}
use Rattle.mirror.specs.SumLaws.{sums_mirror, rows_in_mirror}
use Rattle.mirror.specs.SolveLaws.{coefficients_mirror}
use Rattle.mirror.specs.FitLaws.{choice_mirror}

-- a side
module _ {rs qs : List WeightedRow} (p : MirrorWeights rs qs) where
  pub side_mirror : (bound : DegreeBound) (criterion : Criterion) → side_choice bound criterion rs ≡ side_choice bound criterion qs
  unfolding side_choice
  side_mirror bound criterion =
      rw (pairs_length p) (choice_mirror criterion (sums_mirror p) (rows_in_mirror p) (counts_of Curve (max_degree bound (length qs))))

  pub side_fit_mirror : (d : Degree) → Opposites (side_fit rs d) (side_fit qs d)
  unfolding side_fit
  side_fit_mirror d = coefficients_mirror (sums_mirror p) (count_of Curve d.0)

-- the search
module _ (bound : DegreeBound) (criterion : Criterion) {rs qs : List WeightedRow} (p : MirrorWeights rs qs) where
  pub left_mirror : left_of bound criterion rs ≡ left_of bound criterion qs
  unfolding left_of
  left_mirror = fun_ext (λ b. side_mirror (pairs_take b p) bound criterion)

  pub right_mirror : right_of bound criterion rs ≡ right_of bound criterion qs
  unfolding right_of
  right_mirror = fun_ext (λ b. side_mirror (pairs_drop b p) bound criterion)

  pub best_mirror : best_break bound criterion rs ≡ best_break bound criterion qs
  unfolding best_break
  best_mirror = rw (pairs_length p) (ap₂ (λ (L R : ℕ → Choice). best_of L R 2 (length qs - 1)) left_mirror right_mirror)

  pub search_mirror : search_tests bound criterion rs ≡ search_tests bound criterion qs
  unfolding search_tests break_tests
  search_mirror =
      rw (pairs_length p)
      (ap₂ (λ (L R : ℕ → Choice). from (λ b tests. tests + ((L b).tests + (R b).tests)) 2 (length qs - 1) 0) left_mirror right_mirror)
