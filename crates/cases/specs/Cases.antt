-- Document 01's T1 to T12 together, their samples at weight 1, stated with the names that the public contracts cite. Definitions only.
use Rattle.std.specs.Prelude.{◌≡◌, true, false, List, [], ◌∷◌, ℕ, take, Float, Some}
use Rattle.std.specs.Float.{binary64}
use Rattle.std.specs.Float.Ieee.{sub}
use Rattle.value.specs.Numbers.{num, one_f, two_f}
use Rattle.statistics.specs.declared.Confidence.TheVariants.{P95}
use Rattle.statistics.specs.declared.DegreeBound.TheVariants.{Conservative, Relaxed, Custom}
use Rattle.statistics.specs.Degrees.{max_degree}
use Rattle.statistics.specs.Medians.{median_of}
use Rattle.solve.specs.Solve.{solve}
use Rattle.statistics.specs.Scores.{milli, t_score}
use Rattle.monomial.specs.Rows.{rows_of, weighted_rows}
use Rattle.monomial.specs.Sums.{sums_of}
use Rattle.score.specs.declared.Criterion.TheVariants.{Aic}
use Rattle.choice.specs.Choice.{degree, least_of}
use Rattle.basis.specs.declared.Basis.TheVariants.{Curve}
use Rattle.fit.specs.Chosen.{counts_of, tried, choice_of}
use Rattle.fit.specs.Solved.{is_solved, scored_by}
use Rattle.samples.specs.declared.Sample.{Sample}

-- a sample at weight 1
abbrev pub at : ℕ → ℕ → Sample
at x y = record { x = num x; y = num y; w = one_f }

-- (0,1), (1,3), (2,5)
abbrev pub line : List Sample
line = at 0 1 ∷ at 1 3 ∷ at 2 5 ∷ []

-- (2,1), (2,5)
abbrev pub twice : List Sample
twice = at 2 1 ∷ at 2 5 ∷ []

-- 2.5
abbrev pub two_and_half : Float
two_and_half = milli 2500

pub record Cases : Type 0 where
  -- Conservative n 44 gives 1
  pub t1 : max_degree Conservative 44 ≡ 1
  -- n 45 gives 2
  pub t2 : max_degree Conservative 45 ≡ 2
  -- Relaxed n 63 gives 3
  pub t3 : max_degree Relaxed 63 ≡ 3
  -- n 64 gives 4
  pub t4 : max_degree Relaxed 64 ≡ 4
  -- Custom 5, n 3 gives 2
  pub t5 : max_degree (Custom (degree 5)) 3 ≡ 2
  -- P95 df 8 gives 2.306
  pub t6 : t_score P95 8 ≡ milli 2306
  -- df 29 gives 2.045
  pub t7 : t_score P95 29 ≡ milli 2045
  -- df 30 gives 2.042
  pub t8 : t_score P95 30 ≡ milli 2042
  -- median 1, 2, 3, 10 is 2.5
  pub t9 : median_of (num 1 ∷ num 2 ∷ num 3 ∷ num 10 ∷ []) ≡ two_and_half
  -- samples (0,1),(1,3),(2,5) fit degree 1 as 1, 2
  pub t10 : take 2 (solve (sums_of (weighted_rows line)) 2).c ≡ num 1 ∷ num 2 ∷ []
  pub t10_solved : is_solved (sums_of (weighted_rows line)) (rows_of line) 2 ≡ true
  -- the same by AIC, Custom 1, choose degree 0,
  pub t11 : (choice_of Aic (sums_of (weighted_rows line)) (rows_of line) (counts_of Curve (max_degree (Custom (degree 1)) 3))).chosen ≡ Some (degree 0)
  -- whose score is exactly 2 above degree 1's,
  pub t11_above : (v : Float) × (a : Float) × (scored_by Aic (sums_of (weighted_rows line)) (rows_of line) (rows_of line) 1 ≡ Some v) × (scored_by Aic (sums_of (weighted_rows line)) (rows_of line) (rows_of line) 2 ≡ Some a) × (sub binary64 v a ≡ two_f)
  -- which is the least
  pub t11_least : scored_by Aic (sums_of (weighted_rows line)) (rows_of line) (rows_of line) 2 ≡ Some (least_of (tried Aic (sums_of (weighted_rows line)) (rows_of line) (counts_of Curve (max_degree (Custom (degree 1)) 3))) 2)
  -- (2,1),(2,5), T11's settings: degree 1 unsolved, choice 0
  pub t12_unsolved : is_solved (sums_of (weighted_rows twice)) (rows_of twice) 2 ≡ false
  pub t12 : (choice_of Aic (sums_of (weighted_rows twice)) (rows_of twice) (counts_of Curve (max_degree (Custom (degree 1)) 2))).chosen ≡ Some (degree 0)
