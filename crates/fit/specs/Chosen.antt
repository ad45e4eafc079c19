-- Document 01's "Choice", over rows of term values and the list of coefficient counts to try. Definitions only.
use Rattle.std.specs.Prelude.{List, map, ℕ, ◌+◌, length, get_or, replicate, Float, Option, None}
use Rattle.loops.specs.Fold.{fold}
use Rattle.loops.specs.Places.{each, table}
use Rattle.basis.specs.Sizes.{max_terms}
use Rattle.basis.specs.Counts.{count_of}
use Rattle.basis.specs.declared.Basis.{Basis}
use Rattle.monomial.specs.Rows.{Row}
use Rattle.score.specs.declared.Criterion.{Criterion}
use Rattle.choice.specs.Choice.{least_of, chosen_of, chosen_score, solved_count}
use Rattle.fit.specs.declared.Choice.{Choice}
use Rattle.fit.specs.Solved.{scored_by, pivot_tests}

-- the coefficient counts of the degrees 0 to the last one to try
abbrev pub counts_of : Basis → ℕ → List ℕ
counts_of basis last = table (count_of basis) (last + 1)

-- what is known of degree d, the d-th count to try
unfoldable pub tried : Criterion → List Float → List Row → List ℕ → ℕ → Option Float
tried criterion sums rows counts d = scored_by criterion sums rows rows (get_or counts d 0)

-- the pivot tests of all counts
unfoldable pub tests_of : List Float → List ℕ → ℕ
tests_of sums counts = fold ◌+◌ 0 (map (pivot_tests sums) counts)

-- the scores of the degrees below b, in 16 places: none from b on
abbrev pub scores_of : (ℕ → Option Float) → ℕ → List (Option Float)
scores_of S b = each (λ d _. S d) b (replicate max_terms None)

-- the chosen degree or none, its score, the least score, the number of solved degrees and of pivot tests, and what is known of each degree
unfoldable pub choice_of : Criterion → List Float → List Row → List ℕ → Choice
choice_of criterion sums rows counts =
    record {
      chosen = chosen_of (tried criterion sums rows counts) (length counts);
      score = chosen_score (tried criterion sums rows counts) (chosen_of (tried criterion sums rows counts) (length counts));
      least = least_of (tried criterion sums rows counts) (length counts);
      solved = solved_count (tried criterion sums rows counts) (length counts);
      tests = tests_of sums counts;
      scores = scores_of (tried criterion sums rows counts) (length counts);
    }
