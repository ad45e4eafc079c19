-- The scores by degree: what the call answers and writes, from samples, sums and lengths. Definitions only.
use Rattle.std.specs.Prelude.{◌≡◌, List, [], map, ℕ, length, take, Float, Option, is_some, unwrap_or, Result, Ok}
use Rattle.basis.specs.Sizes.{sum_places}
use Rattle.basis.specs.declared.Basis.TheVariants.{Curve}
use Rattle.basis.specs.declared.Degree.{Degree}
use Rattle.value.specs.Numbers.{zero_f}
use Rattle.statistics.specs.Degrees.{max_degree}
use Rattle.samples.specs.declared.Sample.{Sample}
use Rattle.samples.specs.Columns.{samples_of, Columns, lengths}
use Rattle.monomial.specs.Rows.{Row, rows_of}
use Rattle.fit.specs.declared.Choice.{Choice}
use Rattle.covariance.specs.Marks.{mark}
use Rattle.refusal.specs.declared.refusals.Refusal.{Refusal}
use Rattle.refusal.specs.Named.{refused_by}
use Rattle.refusal.specs.Refusals.{settle}
use Rattle.lent.specs.Slices.{Contents}
use Rattle.lent.specs.Written.{over, zeros}
use Rattle.settings.specs.declared.Settings.{Settings}
use Rattle.reporting.specs.Chosen.{of_chosen}
use Rattle.report.specs.Reports.{report_choice}
use Rattle.scores.specs.declared.ScoreTable.{ScoreTable}
use Rattle.scores.specs.Refusals.{scores_refusal}

-- what the call answers: the table, or a refusal
abbrev pub ScoresAnswer : Type 0
ScoresAnswer = Result ScoreTable Refusal

-- the answer, and the values written to scratch, to the solved bytes and to the scores
pub record ScoresOut : Type 0 where
  pub answer : ScoresAnswer
  pub scratch : List Float
  pub solved : List ℕ
  pub scores : List Float

-- refused by r, one of 1 to 9: nothing is written
abbrev pub scores_refused : ℕ → ScoresOut
scores_refused r = record { answer = refused_by r; scratch = []; solved = []; scores = [] }

-- refused by 11 or 12: nothing but scratch is written
abbrev pub scores_late : ℕ → ℕ → ScoresOut
scores_late n r = record { answer = refused_by r; scratch = zeros n; solved = []; scores = [] }

-- a degree's byte and its score in memory: 1 where it is solved, else 0, and +0 where there is no score
abbrev pub solved_mark : Option Float → ℕ
solved_mark s = mark (is_some s)

abbrev pub score_or_zero : Option Float → Float
score_or_zero s = unwrap_or s zero_f

-- of a choice of the degree d among those from 0 to the bound: the degree, the bound, the number of solved degrees, the least score and the number of
-- pivot tests; of each degree 1 where it is solved, else 0, and its score, +0 where there is none, 16 places each
unfoldable pub scores_by : ℕ → ℕ → Choice → Degree → ScoresOut
scores_by n bound choice d =
    record {
      answer = Ok (record { degree = d; bound = record { 0 = bound }; solved = choice.solved; least = choice.least; tests = choice.tests });
      scratch = zeros n;
      solved = map solved_mark choice.scores;
      scores = map score_or_zero choice.scores;
    }

-- past refusals 1 to 9, of a report's choice, and refused where a report is: 11 if no degree is chosen, 12 if an inverse pivot fails
unfoldable pub scores_of : ℕ → ℕ → List Float → Choice → ScoresOut
scores_of n bound sums choice = of_chosen Curve sums (scores_late n) (scores_by n bound choice) choice.chosen

unfoldable pub scores_past : ℕ → Settings → List Row → List Float → ScoresOut
scores_past n settings rows sums = scores_of n (max_degree settings.bound n) sums (report_choice n settings rows sums)

-- the scores of a book of n samples with these sums; columns, sums, scratch, solved bytes and scores have these lengths
unfoldable pub scores_on : ℕ → Settings → List Sample → List Float → List ℕ → ℕ → ℕ → ℕ → ℕ → ScoresOut
scores_on n settings samples sums columns places scratch solved scores =
    let r = scores_refusal n settings samples columns places scratch solved scores in
    settle r (scores_past n settings (rows_of samples) sums) (scores_refused r)

-- the same on what stands in memory: what the call does
abbrev pub scores_out : ℕ → Settings → Columns → List Float → List Float → List ℕ → List Float → ScoresOut
scores_out n settings columns sums scratch solved scores =
    scores_on n settings (samples_of n columns) (take sum_places sums) (lengths columns) (length sums) (length scratch) (length solved) (length scores)

-- the promise: the answer is the definition's, and its values are written to scratch s, to the solved bytes b and to the scores l
pub record ScoresIs (o : ScoresOut) (r : ScoresAnswer) (s : Contents Float) (b : Contents ℕ) (l : Contents Float) : Type 0 where
  pub answer : r ≡ o.answer
  pub scratch : s.left ≡ over o.scratch s.found
  pub solved : b.left ≡ over o.solved b.found
  pub scores : l.left ≡ over o.scores l.found
