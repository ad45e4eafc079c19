-- What the scores can answer fits the fields that it is packed into, and is read back.
use Rattle.std.specs.Prelude.{◌≡◌, refl, Bool, true, false, cond, List, ℕ, zero, suc, ◌%◌, ◌≤◌, ◌<◌, ltb, length, take, Float, Some, Err, Ok}
use Rattle.std.proofs.Common.{ap, ◌∙◌, mod-eq_of_lt}
use native.Mathlib.Omega.{arith}
use Rattle.refusal.specs.Named.{number}
use Rattle.basis.specs.declared.Basis.TheVariants.{Curve}
use Rattle.basis.specs.declared.Degree.{Degree}
use Rattle.statistics.specs.Degrees.{max_degree}
use Rattle.samples.specs.Columns.{Columns, samples_of, lengths}
use Rattle.monomial.specs.Rows.{Row, rows_of}
use Rattle.fit.specs.Chosen.{choice_of}
use Rattle.refusal.specs.Refusals.{settle}
use Rattle.refusal.specs.NamedLaws.{number_fits}
use Rattle.refusal.specs.Named.{named}
use Rattle.settings.specs.declared.Settings.{Settings}
use Rattle.reporting.specs.ChosenLaws.{of_either}
use Rattle.report.specs.Reports.{report_choice}
use Rattle.report.specs.ChosenLaws.{chosen_solved}
use Rattle.split.specs.SearchLaws.{tests_at_most}
use Rattle.scores.specs.Refusals.{scores_refusal}
use Rattle.scores.specs.RefusalLaws.{scores_room}
use Rattle.scores.specs.Scores.{ScoresAnswer, ScoresOut, scores_refused, scores_late, scores_by, scores_of, scores_past, scores_on, scores_out}
use Rattle.capi.specs.Packed.{packed_scores, scores_into, ScoresFits}
use Rattle.capi.specs.Fitting.{choice_solved}
use Rattle.capi.specs.Reading.{ScoresRead}
use Rattle.capi.specs.ReadingLaws.{lower_part, refusal_read, none_in, first_in, second_in, third_of, fourth_of}

module _ (n : ℕ) (settings : Settings) (rows : List Row) (sums : List Float) (most : max_degree settings.bound n ≤ 15) where
  few_tests : (report_choice n settings rows sums).tests ≤ 136
  unfolding report_choice choice_of
  few_tests = tests_at_most sums (max_degree settings.bound n) most

  by_fits : (d : Degree) → (report_choice n settings rows sums).chosen ≡ Some d
      → ScoresFits (scores_by n (max_degree settings.bound n) (report_choice n settings rows sums) d).answer
  unfolding ScoresFits scores_by
  by_fits d e = (omega (arith, (chosen_solved n settings rows sums d e).0), choice_solved n settings rows sums most, most, few_tests)

  past_fits : ScoresFits (scores_past n settings rows sums).answer
  unfolding scores_past scores_of ScoresFits
  past_fits =
      of_either Curve sums (scores_late n) _ (λ (o : ScoresOut). ScoresFits o.answer) (report_choice n settings rows sums).chosen (omega arith, omega arith) (omega arith, omega arith) by_fits

settles : (k : ℕ) (good : ScoresOut) → (k ≡ 0 → ScoresFits good.answer) → ScoresFits (settle k good (scores_refused k)).answer
unfolding ScoresFits
settles zero good g = g refl
settles (suc k) good g = number_fits (named (suc k))

pub into_fits : (places : ℕ) (o : ScoresOut) → ScoresFits o.answer → ScoresFits (scores_into places o).answer
unfolding scores_into ScoresFits
into_fits places o h = go (ltb places 1)
  where
    go : (t : Bool) → ScoresFits (cond t (scores_refused 1) o).answer
    go true = (omega arith, omega arith)
    go false = h

pub scores_fits : (n : ℕ) (settings : Settings) (columns : Columns) (sums scratch : List Float) (solved : List ℕ) (told : List Float)
    → ScoresFits (scores_out n settings columns sums scratch solved told).answer
unfolding scores_on
scores_fits n settings columns sums scratch solved told =
    let samples = samples_of n columns in
    settles (scores_refusal n settings samples (lengths columns) (length sums) (length scratch) (length solved) (length told)) _
    (λ e.
    past_fits n settings (rows_of samples) (take 272 sums)
    (scores_room n settings samples (lengths columns) (length sums) (length scratch) (length solved) (length told) e).2)

-- ---- read back

pub scores_read : (a : ScoresAnswer) → ScoresFits a → ScoresRead (packed_scores a) a
unfolding ScoresFits ScoresRead packed_scores
scores_read (Ok r) h =
    let d = r.degree in
    let solved = r.solved in
    let bound = r.bound in
    let tests = r.tests in
    let hd : d.0 < 0x100 = omega (arith, h.0) in
    let hs : solved < 0x100 = omega (arith, h.1) in
    let hb : bound.0 < 0x1_0000 = omega (arith, h.2) in
    let ht : tests < 0x100_0000 = omega (arith, h.3) in (
      none_in d.0 solved bound.0 tests hd hs hb ht,
      first_in d.0 solved bound.0 tests hd hs hb ht,
      second_in d.0 solved bound.0 tests hd hs hb ht,
      ap (λ q. q % 0x1_0000) (third_of d.0 solved bound.0 tests hd hs hb ht) ∙ lower_part 0x1_0000 bound.0 tests hb,
      ap (λ q. q % 0x100_0000) (fourth_of d.0 solved bound.0 tests hd hs hb ht) ∙ mod-eq_of_lt ht,
    )
scores_read (Err k) h = refusal_read (number k)

pub scores_back : (n : ℕ) (settings : Settings) (columns : Columns) (sums scratch : List Float) (solved : List ℕ) (told : List Float) (places : ℕ)
    → (let a = (scores_into places (scores_out n settings columns sums scratch solved told)).answer in ScoresRead (packed_scores a) a)
scores_back n settings columns sums scratch solved told places = scores_read _ (into_fits places _ (scores_fits n settings columns sums scratch solved told))
