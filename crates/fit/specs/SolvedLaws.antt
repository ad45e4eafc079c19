-- Laws of Solved.antt.
use Rattle.std.specs.Prelude.{◌≡◌, true, false, List, map, ℕ, eqb, length, Float, Some, None}
use Rattle.std.proofs.Common.{◌∙◌}
use Rattle.std.proofs.lemmas.Option.{cond_some}
use Rattle.loops.specs.Cases.{and_second}
use Rattle.loops.specs.Fold.{all_of}
use Rattle.value.specs.Absolute.{abs_f}
use Rattle.value.specs.Finite.{finite}
use Rattle.value.specs.FiniteLaws.{finite_sizes}
use Rattle.value.specs.Total.{total_f}
use Rattle.statistics.specs.Losses.{losses}
use Rattle.statistics.specs.LossLaws.{losses_sizes}
use Rattle.monomial.specs.Rows.{Row}
use Rattle.solve.specs.Solve.{solve}
use Rattle.score.specs.Score.{score_of}
use Rattle.score.specs.declared.Criterion.{Criterion}
use Rattle.fit.specs.Residuals.{residuals}
use Rattle.fit.specs.Solved.{is_solved, score_on, scored_by}

-- the sizes of its residuals are finite
pub solved_finite : (sums : List Float) (rows : List Row) (k : ℕ) → is_solved sums rows k ≡ true → all_of finite (map abs_f (residuals k (solve sums k).c rows)) ≡ true
unfolding is_solved
solved_finite sums rows k h = finite_sizes (residuals k (solve sums k).c rows) ∙ and_second (eqb (solve sums k).held k) (all_of finite (residuals k (solve sums k).c rows)) h

-- what is known of what is not solved, and of what is and has the score v on n rows of its own, whose residuals have the sizes a
module _ (criterion : Criterion) (sums : List Float) (rows own : List Row) (k : ℕ) where
  pub scored_not : is_solved sums rows k ≡ false → None ≡ scored_by criterion sums rows own k
  unfolding scored_by
  scored_not h = rw h

  pub scored_is : is_solved sums rows k ≡ true → (n : ℕ) (a : List Float) (v : Float) → length own ≡ n → a ≡ map abs_f (residuals k (solve sums k).c own)
      → v ≡ score_of criterion n k (total_f (losses a)) → Some v ≡ scored_by criterion sums rows own k
  unfolding scored_by score_on
  scored_is h n a v l q w = rw (h, w, q, losses_sizes (residuals k (solve sums k).c own), l)

  pub scored_some : {v : Float} → scored_by criterion sums rows own k ≡ Some v → (is_solved sums rows k ≡ true) × (score_on criterion sums own k ≡ v)
  unfolding scored_by
  scored_some {v} h = cond_some (is_solved sums rows k) (score_on criterion sums own k) v h
