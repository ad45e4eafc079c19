-- What demand 3 says of a report that passes refusals 1 to 9, word by word, over the ledger's samples. Definitions only.
use Rattle.std.specs.Prelude.{◌≡◌, true, false, List, ◌⊎◌, ℕ, ◌+◌, ◌<◌, length, Float, Option, Some}
use Rattle.std.specs.Float.Ieee.{lt}
use Rattle.refusal.specs.Named.{refused_by}
use Rattle.value.specs.Numbers.{infinity_f}
use Rattle.statistics.specs.Degrees.{max_degree}
use Rattle.basis.specs.Counts.{count_of}
use Rattle.basis.specs.declared.Basis.TheVariants.{Curve}
use Rattle.samples.specs.declared.Sample.{Sample}
use Rattle.monomial.specs.Rows.{rows_of, weighted_rows}
use Rattle.monomial.specs.Sums.{sums_of}
use Rattle.solve.specs.Solve.{solve}
use Rattle.choice.specs.Choice.{least_of, solved_count, Attained, Chosen}
use Rattle.fit.specs.Solved.{scored_by}
use Rattle.measure.specs.Measures.{inverse_fails, covariance_at}
use Rattle.settings.specs.declared.Settings.{Settings}
use Rattle.reporting.specs.Reports.{ReportOut, written_by}

module _ (settings : Settings) (samples : List Sample) where
  -- the ledger's sums
  abbrev pub ledger_sums : List Float
  ledger_sums = sums_of (weighted_rows samples)

  -- A report's bound is `max_degree` for its setting and n, and its degrees run from 0 to the bound: this many.
  abbrev pub degrees : ℕ
  degrees = max_degree settings.bound (length samples) + 1

  -- a degree's score, if it is solved
  abbrev pub scored : ℕ → Option Float
  scored d = scored_by settings.criterion ledger_sums (rows_of samples) (rows_of samples) (count_of Curve d)

  abbrev pub least_score : Float
  least_score = least_of scored degrees

  -- Chosen is the lowest solved degree within its bound whose score is at most 2 above a finite least.
  abbrev pub IsChosen : ℕ → Type 0
  IsChosen d = Chosen scored degrees d

  -- the words, of what a report answers and writes
  pub record Words (o : ReportOut) : Type 0 where
    -- No solved degree within that bound scores below this least.
    pub none_below : (d : ℕ) (v : Float) → d < degrees → scored d ≡ Some v → lt v least_score ≡ false
    -- It is a solved degree's score, or +infinity.
    pub attained : (least_score ≡ infinity_f) ⊎ Attained scored degrees least_score
    -- No two degrees are chosen.
    pub one_chosen : (d e : ℕ) → IsChosen d → IsChosen e → d ≡ e
    -- The report answers 11 exactly when none is chosen,
    pub none_if_11 : o.answer ≡ refused_by 11 → (d : ℕ) → IsChosen d → ⊥
    pub 11-if-none : ((d : ℕ) → IsChosen d → ⊥) → o.answer ≡ refused_by 11
    -- and 12 exactly when the chosen degree's inverse fails.
    pub fails_if_12 : o.answer ≡ refused_by 12 → (d : ℕ) × IsChosen d × (inverse_fails ledger_sums (count_of Curve d) ≡ true)
    pub 12-if-fails : (d : ℕ) → IsChosen d → inverse_fails ledger_sums (count_of Curve d) ≡ true → o.answer ≡ refused_by 12
    -- Otherwise it names the chosen degree and the number of solved degrees, with that fit's coefficients, errors, bands, outliers and pruned terms,
    -- all as the ledger's samples give them.
    pub otherwise : (d : ℕ) → IsChosen d → inverse_fails ledger_sums (count_of Curve d) ≡ false
        → o ≡ written_by Curve (length samples) settings (rows_of samples) d (solved_count scored degrees) (solve ledger_sums (count_of Curve d)).c (covariance_at ledger_sums (rows_of samples) (count_of Curve d))
