-- OldRule.antt, computed.
use Rattle.std.specs.Prelude.{refl}
use Rattle.std.specs.Int.Count.{count_trailing_zeros}
use Rattle.std.specs.Float.Ieee.{of_bits, to_bits, round, size, span, climb, odd, units, sum, add, sub, mul, div, neg, lt, le, eq, is_nan, of_int}
use Rattle.loops.specs.Loop.{from, turns, while, tries, seek, seeks}
use Rattle.loops.specs.Places.{each, table}
use Rattle.loops.specs.Fold.{fold}
use Rattle.value.specs.Absolute.{abs_f}
use Rattle.value.specs.Finite.{finite}
use Rattle.value.specs.Maximum.{maximum_f}
use Rattle.value.specs.Power.{power_turns, power_from, power_f}
use Rattle.value.specs.Root.{isqrt, closest_root, root_of, root_f}
use Rattle.value.specs.Logarithm.{m_bits, k_biased, ln_sum, ln_bits, ln_positive, ln_f}
use Rattle.basis.specs.Counts.{count_of}
use Rattle.statistics.specs.Degrees.{root, root_up_to, max_degree}
use Rattle.statistics.specs.Scores.{milli, z_at, z_score, entry_at, table_score, t_score}
use Rattle.statistics.specs.Table.{table_entry, thousandths, z_thousandths}
use Rattle.statistics.specs.Medians.{insert, sort, infinite, midpoint, any_nan, median_of, deviations, median_absolute_deviation}
use Rattle.statistics.specs.Losses.{huber_const, huber_loss, losses}
use Rattle.statistics.specs.Variances.{residual_variance, mean, stddev_and_mean}
use Rattle.monomial.specs.Rows.{row_of, fitted}
use Rattle.monomial.specs.Sums.{product_of, weighted_product, add_row, sums_of}
use Rattle.solve.specs.Solve.{clear_row, clear_below, pivot_holds, eliminate, back_row, back, right_of, solved, solve, ridge, unit_column, column_holds, put_column, inverse_column, inverse_columns, inverse}
use Rattle.score.specs.Score.{likelihood_of, aic_of, score_of, score_by}
use Rattle.choice.specs.Choice.{yields, least_of, near, chosen_of, chosen_score, solved_count}
use Rattle.fit.specs.Residuals.{residual, residuals}
use Rattle.fit.specs.Solved.{is_solved, score_on, scored_by, pivot_tests}
use Rattle.fit.specs.Chosen.{tried, tests_of, choice_of}
use Rattle.covariance.specs.Covariance.{covariance_of, errors_of, column_of, prediction_variance}
use Rattle.covariance.specs.Marks.{ones}
use Rattle.covariance.specs.Bands.{band_of, band_at, lower_of, upper_of, outlier_of}
use Rattle.covariance.specs.Pruning.{tested, prunes, pruned_at}
use Rattle.refusal.specs.Refusals.{first_of}
use Rattle.refusal.specs.Tests.{any_short, capacity}
use Rattle.measure.specs.Measures.{covariance_at}
use Rattle.reporting.specs.Reports.{written_by, report_of}
use Rattle.report.specs.Refusals.{report_refusal}
use Rattle.report.specs.Reports.{report_choice, report_past, report_on}
use Rattle.mirrored.specs.OldRule.{OldRule}

pub old_rule : OldRule
unfolding report_on report_past report_choice report_refusal written_by report_of covariance_at any_short capacity first_of tested prunes pruned_at band_of band_at lower_of upper_of outlier_of ones covariance_of errors_of column_of prediction_variance tried tests_of choice_of is_solved score_on scored_by pivot_tests residual residuals yields least_of near chosen_of chosen_score solved_count likelihood_of aic_of score_of score_by clear_row clear_below pivot_holds eliminate back_row back right_of solved solve ridge unit_column column_holds put_column inverse_column inverse_columns inverse product_of weighted_product add_row sums_of row_of fitted residual_variance mean stddev_and_mean huber_const huber_loss losses insert sort infinite midpoint any_nan median_of deviations median_absolute_deviation table_entry thousandths z_thousandths milli z_at z_score entry_at table_score t_score root root_up_to max_degree count_of m_bits k_biased ln_sum ln_bits ln_positive ln_f isqrt closest_root root_of root_f power_turns power_from power_f maximum_f finite abs_f fold each table from turns while tries seek seeks of_bits to_bits round size span climb odd units sum add sub mul div neg lt le eq is_nan of_int count_trailing_zeros
old_rule = record { base = refl; surface = refl; base_by_size = refl; surface_by_size = refl }
