-- Document 01's T1 to T12 hold: the law of Cases.antt.
use Rattle.std.specs.Prelude.{◌≡◌, refl, ℕ, zero, suc, ◌<◌, take, Float, Option, Some, None}
use Rattle.std.proofs.Common.{sym, ap, ◌∙◌, arith}
use Rattle.std.specs.Int.Count.{count_trailing_zeros}
use Rattle.std.specs.Float.{binary64}
use Rattle.std.specs.Float.Ieee.{of_bits, to_bits, round, size, span, climb, odd, units, sum, add, sub, mul, div, neg, lt, le, eq, is_nan, of_int}
use Rattle.loops.specs.Loop.{from, turns, seek, seeks}
use Rattle.loops.specs.Fold.{fold}
use Rattle.loops.specs.Places.{table}
use Rattle.value.specs.Logarithm.{m_bits, k_biased, ln_sum, ln_bits, ln_positive, ln_f}
use Rattle.value.specs.Maximum.{maximum_f}
use Rattle.value.specs.Numbers.{zero_f, two_f}
use Rattle.statistics.specs.Degrees.{root, root_up_to, max_degree}
use Rattle.statistics.specs.Medians.{insert, sort, infinite, midpoint, any_nan, median_of}
use Rattle.statistics.specs.Table.{table_entry, thousandths, z_thousandths}
use Rattle.statistics.specs.Scores.{milli, z_at, z_score, entry_at, table_score, t_score}
use Rattle.monomial.specs.Rows.{rows_of, weighted_rows}
use Rattle.monomial.specs.Sums.{sums_of}
use Rattle.solve.specs.declared.Solved.{Solved}
use Rattle.score.specs.Score.{likelihood_of, aic_of}
use Rattle.score.specs.declared.Criterion.TheVariants.{Aic}
use Rattle.choice.specs.Choice.{degree, yields, least_of, near, chosen_of}
use Rattle.choice.specs.ChoiceLaws.{least_same, chosen_same}
use Rattle.basis.specs.Counts.{count_of}
use Rattle.fit.specs.Chosen.{tried, choice_of}
use Rattle.fit.specs.SolvedLaws.{scored_some}
use Rattle.cases.specs.Cases.{line, Cases}
use Rattle.cases.specs.Solutions.{line_degree_1, line_score_0, line_score_1, twice_score_0, twice_score_1, twice_unsolved}

-- ---- the parts

-- what is known of degrees 0 and 1
abbrev known : Option Float → Option Float → ℕ → Option Float
known a b zero = a
known a b (suc d) = b

below_two : (P : ℕ → Type 0) → P 0 → P 1 → (d : ℕ) → d < 2 → P d
below_two P a b zero h = a
below_two P a b (suc zero) h = b
below_two P a b (suc (suc d)) h = absurd (omega arith)

line_chosen : chosen_of (known (Some (aic_of 3 1 zero_f)) (Some (aic_of 3 2 zero_f))) 2 ≡ Some (degree 0)
unfolding chosen_of least_of yields near seek seeks from turns aic_of likelihood_of maximum_f is_nan ln_f ln_positive ln_bits m_bits k_biased ln_sum of_int of_bits to_bits round size span climb odd units sum add sub mul div neg lt le eq count_trailing_zeros
line_chosen = refl

line_above : sub binary64 (aic_of 3 1 zero_f) (aic_of 3 2 zero_f) ≡ two_f
unfolding aic_of likelihood_of maximum_f is_nan ln_f ln_positive ln_bits m_bits k_biased ln_sum of_int of_bits to_bits round size span climb odd units sum add sub mul div neg lt le eq count_trailing_zeros
line_above = refl

line_least : least_of (known (Some (aic_of 3 1 zero_f)) (Some (aic_of 3 2 zero_f))) 2 ≡ aic_of 3 2 zero_f
unfolding least_of yields from turns aic_of likelihood_of maximum_f is_nan ln_f ln_positive ln_bits m_bits k_biased ln_sum of_int of_bits to_bits round size span climb odd units sum add sub mul div neg lt le eq count_trailing_zeros
line_least = refl

twice_chosen : chosen_of (known (Some (aic_of 2 1 zero_f)) None) 2 ≡ Some (degree 0)
unfolding chosen_of least_of yields near seek seeks from turns aic_of likelihood_of maximum_f is_nan ln_f ln_positive ln_bits m_bits k_biased ln_sum of_int of_bits to_bits round size span climb odd units sum add sub mul div neg lt le eq count_trailing_zeros
twice_chosen = refl

-- ---- the theorem

pub cases : Cases
unfolding max_degree root root_up_to t_score table_score entry_at table_entry milli z_score z_at thousandths z_thousandths median_of any_nan fold is_nan sort insert infinite midpoint choice_of tried table of_int of_bits round size span climb odd units sum add div lt le eq count_trailing_zeros count_of
cases =
    record {
      t1 = refl;
      t2 = refl;
      t3 = refl;
      t4 = refl;
      t5 = refl;
      t6 = refl;
      t7 = refl;
      t8 = refl;
      t9 = refl;
      t10 = ap (λ (s : Solved). take 2 s.c) line_degree_1;
      t10_solved = (scored_some Aic (sums_of (weighted_rows line)) (rows_of line) (rows_of line) 2 line_score_1).0;
      t11 = chosen_same _ _ 2 (below_two _ line_score_0 line_score_1) ∙ line_chosen;
      t11_above = (aic_of 3 1 zero_f, aic_of 3 2 zero_f, line_score_0, line_score_1, line_above);
      t11_least = line_score_1 ∙ ap Some (sym (least_same _ _ 2 (below_two _ line_score_0 line_score_1) ∙ line_least));
      t12_unsolved = twice_unsolved;
      t12 = chosen_same _ _ 2 (below_two _ twice_score_0 twice_score_1) ∙ twice_chosen;
    }
