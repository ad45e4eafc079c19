-- What is known of k coefficients, and the choice among counts up to k, read of the sums only the k by k corner of A and the first k places of g.
use Rattle.std.specs.Prelude.{◌≡◌, List, [], ◌∷◌, map, ℕ, ◌+◌, ◌≤◌, ◌<◌, length, get_or, Float}
use Rattle.std.proofs.Math.Path.{refl}
use Rattle.std.proofs.Common.{ap, arith}
use Rattle.loops.specs.All.{All}
use Rattle.loops.specs.AllLaws.{all_at, all_table}
use Rattle.basis.specs.Counts.{count_of}
use Rattle.basis.specs.CountLaws.{count_mono}
use Rattle.basis.specs.declared.Basis.{Basis}
use Rattle.monomial.specs.Rows.{Row}
use Rattle.monomial.specs.Corner.{SameCorner}
use Rattle.monomial.specs.CornerLaws.{smaller_corner}
use Rattle.solve.specs.Solve.{solve}
use Rattle.solve.specs.CornerLaws.{solve_corner}
use Rattle.score.specs.declared.Criterion.{Criterion}
use Rattle.choice.specs.Choice.{chosen_of}
use Rattle.choice.specs.ChoiceLaws.{least_same, chosen_same, count_same}
use Rattle.choice.specs.Laws.{chosen_score_same}
use Rattle.fit.specs.Solved.{is_solved, score_on, scored_by, pivot_tests}
use Rattle.fit.specs.Chosen.{counts_of, tried, tests_of, choice_of}
use Rattle.fit.specs.ChosenLaws.{scores_same}

-- two lists of sums that agree in the corner of m rows and columns
module _ (m : ℕ) (fits : m ≤ 16) (s t : List Float) (hs : 256 ≤ length s) (ht : 256 ≤ length t) (same : SameCorner m s t) where
  solve_within : (k : ℕ) → k ≤ m → solve s k ≡ solve t k
  solve_within k h = solve_corner k (omega arith) s t hs ht (smaller_corner k m s t h same)

  pub solved_corner : (rows : List Row) (k : ℕ) → k ≤ m → is_solved s rows k ≡ is_solved t rows k
  unfolding is_solved
  solved_corner rows k h = rw (solve_within k h)

  pub tests_corner : (k : ℕ) → k ≤ m → pivot_tests s k ≡ pivot_tests t k
  unfolding pivot_tests
  tests_corner k h = rw (solve_within k h)

  pub scored_corner : (criterion : Criterion) (rows own : List Row) (k : ℕ) → k ≤ m → scored_by criterion s rows own k ≡ scored_by criterion t rows own k
  unfolding scored_by is_solved score_on
  scored_corner criterion rows own k h = rw (solve_within k h)

  same_tests : (counts : List ℕ) → All (λ k. k ≤ m) counts → map (pivot_tests s) counts ≡ map (pivot_tests t) counts
  same_tests [] a = refl
  same_tests (k ∷ counts) a = rw (tests_corner k a.0) (ap (λ l. pivot_tests t k ∷ l) (same_tests counts a.1))

  module _ (criterion : Criterion) (rows : List Row) (counts : List ℕ) (all : All (λ k. k ≤ m) counts) where
    same_tried : (d : ℕ) → d < length counts → tried criterion s rows counts d ≡ tried criterion t rows counts d
    unfolding tried
    same_tried d h = scored_corner criterion rows rows (get_or counts d 0) (all_at (λ k. k ≤ m) counts d 0 all h)

    pub choice_corner : choice_of criterion s rows counts ≡ choice_of criterion t rows counts
    unfolding choice_of tests_of
    choice_corner =
        let S = tried criterion s rows counts in
        let R = tried criterion t rows counts in
        rw (chosen_score_same S R (length counts) same_tried (chosen_of S (length counts)) refl, chosen_same S R (length counts) same_tried, least_same S R (length counts) same_tried, count_same S R (length counts) same_tried, same_tests counts all, scores_same S R (length counts) same_tried)

-- the counts up to a degree's are at most its own
pub counts_within : (basis : Basis) (last : ℕ) → All (λ k. k ≤ count_of basis last) (counts_of basis last)
counts_within basis last = all_table (λ k. k ≤ count_of basis last) (count_of basis) (last + 1) (λ d h. count_mono basis d last (omega arith))
