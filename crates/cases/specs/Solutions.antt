-- What the samples of T10 to T12 solve to and score, computed from the definitions that the contracts cite.
use Rattle.std.specs.Prelude.{◌≡◌, refl, false, cond, ◌&&◌, List, ◌∷◌, ℕ, eqb, length, replicate, Float, Option, Some, None}
use Rattle.std.proofs.Common.{◌∙◌}
use Rattle.std.specs.Int.Count.{count_trailing_zeros}
use Rattle.std.specs.Float.Ieee.{of_bits, round, size, span, climb, odd, units, sum, add, sub, mul, div, neg, lt, le, eq, is_nan, of_int}
use Rattle.loops.specs.Loop.{from, turns, while, tries}
use Rattle.loops.specs.Places.{each, table}
use Rattle.loops.specs.Fold.{fold, all_of}
use Rattle.value.specs.Absolute.{abs_f}
use Rattle.value.specs.Finite.{finite}
use Rattle.value.specs.Numbers.{num, zero_f}
use Rattle.value.specs.Power.{power_turns, power_from, power_f}
use Rattle.value.specs.Total.{total_f}
use Rattle.statistics.specs.Scores.{milli}
use Rattle.statistics.specs.Medians.{insert, sort, infinite, midpoint, any_nan, median_of, deviations, median_absolute_deviation}
use Rattle.statistics.specs.Losses.{huber_const, huber_loss, losses}
use Rattle.monomial.specs.Rows.{Row, row_of, rows_of, weighted_rows, fitted}
use Rattle.monomial.specs.Sums.{product_of, weighted_product, add_row, sums_of}
use Rattle.solve.specs.Solve.{clear_row, clear_below, pivot_holds, eliminate, back_row, back, right_of, solved, solve}
use Rattle.solve.specs.declared.Solved.{Solved}
use Rattle.score.specs.Score.{aic_of, score_of, score_by}
use Rattle.score.specs.declared.Criterion.TheVariants.{Aic}
use Rattle.fit.specs.Residuals.{residual, residuals}
use Rattle.fit.specs.Solved.{is_solved, score_on, scored_by}
use Rattle.cases.specs.Cases.{line, twice}

-- both pivots hold, the coefficients are 1 and 2, and the other 14 places are +0
pub line_degree_1 : solve (sums_of (weighted_rows line)) 2 ≡ record { held = 2; c = num 1 ∷ num 2 ∷ replicate 14 zero_f }
unfolding of_int of_bits round size span climb odd units sum add sub mul div lt count_trailing_zeros from turns while tries each table fold power_turns power_from power_f row_of product_of weighted_product add_row sums_of clear_row clear_below pivot_holds eliminate back_row back right_of solved solve
line_degree_1 = refl

-- the mean
pub line_degree_0 : solve (sums_of (weighted_rows line)) 1 ≡ record { held = 1; c = num 3 ∷ replicate 15 zero_f }
unfolding of_int of_bits round size span climb odd units sum add sub mul div lt count_trailing_zeros from turns while tries each table fold power_turns power_from power_f row_of product_of weighted_product add_row sums_of clear_row clear_below pivot_holds eliminate back_row back right_of solved solve
line_degree_0 = refl

pub twice_degree_0 : solve (sums_of (weighted_rows twice)) 1 ≡ record { held = 1; c = num 3 ∷ replicate 15 zero_f }
unfolding of_int of_bits round size span climb odd units sum add sub mul div lt count_trailing_zeros from turns while tries each table fold power_turns power_from power_f row_of product_of weighted_product add_row sums_of clear_row clear_below pivot_holds eliminate back_row back right_of solved solve
twice_degree_0 = refl

-- the second pivot fails
pub twice_degree_1 : solve (sums_of (weighted_rows twice)) 2 ≡ record { held = 1; c = replicate 16 zero_f }
unfolding of_int of_bits round size span climb odd units sum add sub mul div lt count_trailing_zeros from turns while tries each table fold power_turns power_from power_f row_of product_of weighted_product add_row sums_of clear_row clear_below pivot_holds eliminate back_row back right_of solved solve
twice_degree_1 = refl

-- ---- scores by AIC: every loss is +0, since at least half of the residuals have one size

-- from a solution in hand
scored_from : List Row → ℕ → Solved → Option Float
scored_from rows k s =
    let rs = residuals k s.c rows in
    let t = eqb s.held k && all_of finite rs in
    cond t (Some (score_of Aic (length rows) k (total_f (losses rs)))) None

scored_from_lem : (sums : List Float) (rows : List Row) (k : ℕ) (s : Solved) → solve sums k ≡ s → scored_by Aic sums rows rows k ≡ scored_from rows k s
unfolding scored_by is_solved score_on scored_from
scored_from_lem sums rows k s e = rw e

line_from_0 : scored_from (rows_of line) 1 (record { held = 1; c = num 3 ∷ replicate 15 zero_f }) ≡ Some (aic_of 3 1 zero_f)
unfolding scored_from score_of score_by residuals residual fitted fold table row_of power_turns power_from power_f losses huber_loss huber_const milli median_absolute_deviation median_of any_nan is_nan deviations sort insert infinite midpoint abs_f finite of_int of_bits round size span climb odd units sum add sub mul div neg lt le eq count_trailing_zeros
line_from_0 = refl

pub line_score_0 : scored_by Aic (sums_of (weighted_rows line)) (rows_of line) (rows_of line) 1 ≡ Some (aic_of 3 1 zero_f)
line_score_0 = scored_from_lem (sums_of (weighted_rows line)) (rows_of line) 1 _ line_degree_0 ∙ line_from_0

line_from_1 : scored_from (rows_of line) 2 (record { held = 2; c = num 1 ∷ num 2 ∷ replicate 14 zero_f }) ≡ Some (aic_of 3 2 zero_f)
unfolding scored_from score_of score_by residuals residual fitted fold table row_of power_turns power_from power_f losses huber_loss huber_const milli median_absolute_deviation median_of any_nan is_nan deviations sort insert infinite midpoint abs_f finite of_int of_bits round size span climb odd units sum add sub mul div neg lt le eq count_trailing_zeros
line_from_1 = refl

pub line_score_1 : scored_by Aic (sums_of (weighted_rows line)) (rows_of line) (rows_of line) 2 ≡ Some (aic_of 3 2 zero_f)
line_score_1 = scored_from_lem (sums_of (weighted_rows line)) (rows_of line) 2 _ line_degree_1 ∙ line_from_1

twice_from_0 : scored_from (rows_of twice) 1 (record { held = 1; c = num 3 ∷ replicate 15 zero_f }) ≡ Some (aic_of 2 1 zero_f)
unfolding scored_from score_of score_by residuals residual fitted fold table row_of power_turns power_from power_f losses huber_loss huber_const milli median_absolute_deviation median_of any_nan is_nan deviations sort insert infinite midpoint abs_f finite of_int of_bits round size span climb odd units sum add sub mul div neg lt le eq count_trailing_zeros
twice_from_0 = refl

pub twice_score_0 : scored_by Aic (sums_of (weighted_rows twice)) (rows_of twice) (rows_of twice) 1 ≡ Some (aic_of 2 1 zero_f)
twice_score_0 = scored_from_lem (sums_of (weighted_rows twice)) (rows_of twice) 1 _ twice_degree_0 ∙ twice_from_0

pub twice_unsolved : is_solved (sums_of (weighted_rows twice)) (rows_of twice) 2 ≡ false
unfolding is_solved
twice_unsolved = rw twice_degree_1

pub twice_score_1 : scored_by Aic (sums_of (weighted_rows twice)) (rows_of twice) (rows_of twice) 2 ≡ None
unfolding scored_by
twice_score_1 = rw twice_unsolved
