-- Document 02's losses line by line: what the call answers and writes, from samples, sums and lengths. Definitions only.
use Rattle.std.specs.Prelude.{◌≡◌, List, [], ℕ, length, take, Float, Option, Result, Ok}
use Rattle.basis.specs.declared.Degree.{Degree}
use Rattle.basis.specs.Counts.{count_of}
use Rattle.basis.specs.Sizes.{sum_places}
use Rattle.basis.specs.declared.Basis.TheVariants.{Curve}
use Rattle.value.specs.Total.{total_f}
use Rattle.statistics.specs.Losses.{losses}
use Rattle.samples.specs.declared.Sample.{Sample}
use Rattle.samples.specs.Columns.{samples_of, Columns, lengths}
use Rattle.monomial.specs.Rows.{Row, rows_of}
use Rattle.solve.specs.Solve.{solve}
use Rattle.score.specs.Score.{score_of}
use Rattle.fit.specs.Residuals.{residuals}
use Rattle.refusal.specs.declared.refusals.Refusal.{Refusal}
use Rattle.refusal.specs.Named.{refused_by}
use Rattle.refusal.specs.Refusals.{settle}
use Rattle.lent.specs.Slices.{Contents}
use Rattle.lent.specs.Written.{over, zeros}
use Rattle.settings.specs.declared.Settings.{Settings}
use Rattle.reporting.specs.Chosen.{of_chosen}
use Rattle.report.specs.Reports.{report_choice}
use Rattle.losses.specs.declared.LossTotals.{LossTotals}
use Rattle.losses.specs.Refusals.{loss_refusal}

-- what the call answers: the totals, or a refusal
abbrev pub LossAnswer : Type 0
LossAnswer = Result LossTotals Refusal

-- the answer, and the values written to scratch and to the losses
pub record LossOut : Type 0 where
  pub answer : LossAnswer
  pub scratch : List Float
  pub losses : List Float

-- refused by r, one of 1 to 9: nothing is written
abbrev pub loss_refused : ℕ → LossOut
loss_refused r = record { answer = refused_by r; scratch = []; losses = [] }

-- refused by 11 or 12: nothing but scratch is written
abbrev pub loss_late : ℕ → ℕ → LossOut
loss_late n r = record { answer = refused_by r; scratch = zeros n; losses = [] }

-- the Huber loss of each sample at k coefficients, in order; weights are not seen
unfoldable pub losses_at : List Float → List Row → ℕ → List Float
losses_at sums rows k = losses (residuals k (solve sums k).c rows)

-- of the chosen degree: the losses, their total in that order from +0, and the score made from this total
unfoldable pub losses_by : ℕ → Settings → List Row → List Float → ℕ → LossOut
losses_by n settings rows sums degree =
    let k = count_of Curve degree in
    let told = losses_at sums rows k in
    record {
      answer = Ok (record { degree = record { 0 = degree }; total = total_f told; score = score_of settings.criterion n k (total_f told) });
      scratch = zeros n;
      losses = told;
    }

-- past refusals 1 to 9, of a report's choice, and refused where a report is: 11 if no degree is chosen, 12 if an inverse pivot fails
unfoldable pub loss_of : ℕ → Settings → List Row → List Float → Option Degree → LossOut
loss_of n settings rows sums o = of_chosen Curve sums (loss_late n) (λ d. losses_by n settings rows sums d.0) o

unfoldable pub loss_past : ℕ → Settings → List Row → List Float → LossOut
loss_past n settings rows sums = loss_of n settings rows sums (report_choice n settings rows sums).chosen

-- the losses of a book of n samples with these sums; columns, sums, scratch and the losses have these lengths
unfoldable pub loss_on : ℕ → Settings → List Sample → List Float → List ℕ → ℕ → ℕ → ℕ → LossOut
loss_on n settings samples sums columns places scratch losses =
    let r = loss_refusal n settings samples columns places scratch losses in
    settle r (loss_past n settings (rows_of samples) sums) (loss_refused r)

-- the same on what stands in memory: what the call does
abbrev pub loss_out : ℕ → Settings → Columns → List Float → List Float → List Float → LossOut
loss_out n settings columns sums scratch losses =
    loss_on n settings (samples_of n columns) (take sum_places sums) (lengths columns) (length sums) (length scratch) (length losses)

-- the promise: the answer is the definition's, and its values are written to scratch s and to the losses l
pub record LossIs (o : LossOut) (r : LossAnswer) (s l : Contents Float) : Type 0 where
  pub answer : r ≡ o.answer
  pub scratch : s.left ≡ over o.scratch s.found
  pub losses : l.left ≡ over o.losses l.found
