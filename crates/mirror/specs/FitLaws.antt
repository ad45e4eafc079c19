-- The fit of rows alike but for the sign of y: residuals are opposite, so that their sizes, their losses, the solved degrees, every score and the
-- choice are equal, bit for bit.
use Rattle.std.specs.Prelude.{◌≡◌, List, map, length, get_or, Float, Option}
use Rattle.std.proofs.Common.{sym, ◌∙◌}
use Rattle.std.proofs.Math.Path.{ap, ap₂, fun_ext}
use Rattle.std.proofs.Math.Bool.{◌&&◌}
use Prim.Native.Nat.{ℕ, ◌+◌, min}
use Rattle.std.proofs.Math.Dec.{eqb}
use Rattle.std.specs.Float.{nan, binary64}
use Rattle.std.specs.Float.Ieee.{mul}
use Rattle.loops.specs.Fold.{fold, all_of}
use Rattle.value.specs.Absolute.{abs_f}
use Rattle.value.specs.Finite.{finite}
use Rattle.statistics.specs.Losses.{losses}
use Rattle.statistics.specs.LossLaws.{losses_sizes}
use Rattle.statistics.specs.Variances.{residual_variance}
use Rattle.statistics.specs.VarianceLaws.{variance_sizes}
use Rattle.monomial.specs.Rows.{Row, fitted}
use Rattle.solve.specs.Solve.{solve}
use Rattle.score.specs.declared.Criterion.{Criterion}
use Rattle.choice.specs.Choice.{least_of, chosen_of, chosen_score, solved_count}
use Rattle.fit.specs.Residuals.{residual, residuals}
use Rattle.fit.specs.Solved.{is_solved, score_on, scored_by, pivot_tests}
use Rattle.fit.specs.Chosen.{tried, tests_of, scores_of, choice_of}
use Rattle.signs.specs.Opposite.{Opposite}
use Rattle.signs.specs.OppositeLaws.{opposite_nan}
use Rattle.signs.specs.Steps.{sub_opposite, mul_opposite_left, abs_opposite, finite_opposite}
use Rattle.mirror.specs.PairLaws.{pairs_length, pairs_at, pairs_table, pairs_map, pairs_equal, pairs_all}
use Rattle.mirror.specs.Mirror.{MirrorRows, Opposites, MirrorSums}
use Rattle.mirror.specs.SumLaws.{total_opposite}
use Rattle.mirror.specs.SolveLaws.{held_mirror, coefficients_mirror}

-- ---- what is made of opposite residuals alone

module _ {l m : List Float} (o : Opposites l m) where
  -- their sizes have the same bits
  pub sizes_mirror : map abs_f l ≡ map abs_f m
  sizes_mirror = pairs_equal abs_f abs_f (λ a b q. abs_opposite q) o

  pub losses_mirror : losses l ≡ losses m
  losses_mirror = sym (losses_sizes l) ∙ ap losses sizes_mirror ∙ losses_sizes m

  pub variance_mirror : (k : ℕ) → residual_variance k l ≡ residual_variance k m
  variance_mirror k = sym (variance_sizes k l) ∙ ap (residual_variance k) sizes_mirror ∙ variance_sizes k m

  pub finite_mirror : all_of finite l ≡ all_of finite m
  finite_mirror = pairs_all finite finite (λ a b q. finite_opposite q) o

-- ---- fitted values and residuals

pub fitted_mirror : (k : ℕ) {c d : List Float} (terms : List Float) → Opposites c d → Opposite (fitted k c terms) (fitted k d terms)
unfolding fitted
fitted_mirror k {c} {d} terms o =
    total_opposite
    (pairs_table (λ j. mul binary64 (get_or c j nan) (get_or terms j nan)) (λ j. mul binary64 (get_or d j nan) (get_or terms j nan)) k
    (λ j l. mul_opposite_left binary64 (pairs_at o opposite_nan j) (get_or terms j nan)))

pub residuals_mirror : (k : ℕ) {c d : List Float} {rs qs : List Row} → Opposites c d → MirrorRows rs qs → Opposites (residuals k c rs) (residuals k d qs)
unfolding residuals residual
residuals_mirror k {c} {d} o p =
    pairs_map Opposite (residual k c) (residual k d) (λ r q h. sub_opposite binary64 h.y (rw h.terms (fitted_mirror k q.terms o))) p

-- ---- a degree, of k coefficients, solved from sums s and from their mirror image t

module _ {s t : List Float} (h : MirrorSums s t) where
  pub tests_mirror : (k : ℕ) → pivot_tests s k ≡ pivot_tests t k
  unfolding pivot_tests
  tests_mirror k = ap (λ n. min k (n + 1)) (held_mirror h k)

  pub all_tests_mirror : (counts : List ℕ) → tests_of s counts ≡ tests_of t counts
  unfolding tests_of
  all_tests_mirror counts = ap (λ f. fold ◌+◌ 0 (map f counts)) (fun_ext tests_mirror)

  module _ {rs qs : List Row} (p : MirrorRows rs qs) where
    solved_residuals : (k : ℕ) → Opposites (residuals k (solve s k).c rs) (residuals k (solve t k).c qs)
    solved_residuals k = residuals_mirror k (coefficients_mirror h k) p

    pub solved_mirror : (k : ℕ) → is_solved s rs k ≡ is_solved t qs k
    unfolding is_solved
    solved_mirror k = ap₂ ◌&&◌ (ap (λ n. eqb n k) (held_mirror h k)) (finite_mirror (solved_residuals k))

    -- the loss of each sample, in order
    pub loss_list_mirror : (k : ℕ) → losses (residuals k (solve s k).c rs) ≡ losses (residuals k (solve t k).c qs)
    loss_list_mirror k = losses_mirror (solved_residuals k)

    pub score_mirror : (criterion : Criterion) (k : ℕ) → score_on criterion s rs k ≡ score_on criterion t qs k
    unfolding score_on
    score_mirror criterion k = rw (pairs_length p, loss_list_mirror k)

    pub residual_variance_mirror : (k : ℕ) → residual_variance k (residuals k (solve s k).c rs) ≡ residual_variance k (residuals k (solve t k).c qs)
    residual_variance_mirror k = variance_mirror (solved_residuals k) k

-- what is known of k coefficients: the score, if they are solved
pub scored_mirror : (criterion : Criterion) {s t : List Float} → MirrorSums s t → {rs qs own own' : List Row} → MirrorRows rs qs → MirrorRows own own'
    → (k : ℕ) → scored_by criterion s rs own k ≡ scored_by criterion t qs own' k
unfolding scored_by
scored_mirror criterion h p o k = rw (solved_mirror h p k, score_mirror h o criterion k)

-- The whole choice, of any counts to try: the chosen degree or none, its score, the least score, the number of solved degrees and of pivot tests, and
-- of every degree its score, if it is solved
module _ (criterion : Criterion) {s t : List Float} (h : MirrorSums s t) {rs qs : List Row} (p : MirrorRows rs qs) (counts : List ℕ) where
  pub tried_mirror : tried criterion s rs counts ≡ tried criterion t qs counts
  unfolding tried
  tried_mirror = fun_ext (λ d. scored_mirror criterion h p p (get_or counts d 0))

  pub choice_mirror : choice_of criterion s rs counts ≡ choice_of criterion t qs counts
  unfolding choice_of
  choice_mirror =
      ap₂
      (λ (S : ℕ → Option Float) (tests : ℕ).
      record {
        chosen = chosen_of S (length counts);
        score = chosen_score S (chosen_of S (length counts));
        least = least_of S (length counts);
        solved = solved_count S (length counts);
        tests = tests;
        scores = scores_of S (length counts);
      })
      tried_mirror (all_tests_mirror h counts)
